-- Each request comes to a reply of the length that its buffer must have, to a leave, or to a refusal by one of the five numbers, and to
-- each exactly for document 01's reason; a refusal keeps table and buffer. Assumes nothing.
use Rattle.std.specs.Prelude.{Option, None, Some}
use Prim.Native.Nat.{ℕ, ◌+◌, ◌*◌, ◌≤◌}
use native.Mathlib.Omega.{arith}
use mathlib.Core.Path.{◌≡◌, refl, sym, ap, ◌∙◌}
use mathlib.Core.Bool.{Bool, true, false, ◌||◌, ◌&&◌, not, cond, false≢true, or-false, or-true, and-eq-true_iff}
use mathlib.Core.List.{List, [], ◌∷◌, map}
use lib.Dec.{eqb, leb, ltb}
use lib.ListN.{length, drop, length-take, length-drop, length-map}
use lib.Seq.{length-take-le}
use borrow.Author.Tests.{eqb-true, eqb-false, eq-eqb, leb-true, le-leb, lt-leb, ltb-true, ltb-false, le-ltb}
use Rattle.zigbee_types.specs.Outcome.{Outcome, answer, refusal, and_then, mapped, needing, fitted}
use Rattle.zigbee_types.specs.Lists.{part, any, all, option}
use Rattle.zigbee_types.specs.Layout.{size, fields_at, field_of, parsed, counted, behind, entries_at, lists_in}
use Rattle.zigbee_types.specs.Statuses.{INV_REQUESTTYPE, NOT_ACTIVE}
use Rattle.zigbee_types.specs.declared.ClusterLists.{ClusterLists}
use Rattle.zigbee_types.specs.declared.IeeeAddress.{IeeeAddress}
use Rattle.zigbee_types.specs.declared.ShortAddress.{ShortAddress}
use Rattle.zigbee_types.proofs.Outcomes.{refused}
use Rattle.simple_descriptor.specs.SimpleDescriptor.{Endpoint, cluster_count, simple_written}
use Rattle.aps_binding_table.specs.Table.{good_table}
use Rattle.aps_binding_table.specs.declared.binding.BindingTable.{BindingTable}
use Rattle.zdo_requests.specs.Clusters.{NWK_ADDR_REQ_NUMBER, IEEE_ADDR_REQ_NUMBER, NODE_DESC_REQ_NUMBER, POWER_DESC_REQ_NUMBER, SIMPLE_DESC_REQ_NUMBER, ACTIVE_EP_REQ_NUMBER, MATCH_DESC_REQ_NUMBER, MGMT_LEAVE_REQ_NUMBER, reply_cluster}
use Rattle.zdo_requests.specs.Requests.{nwk_addr_req_in, ieee_addr_req_in, addr_of_interest_widths, addr_of_interest_req_in, simple_desc_req_in, match_widths, match_req_of, match_desc_req_in, group_in, device_in, destination_in, bind_req_in, mgmt_leave_req_in}
use Rattle.zdo_requests.specs.declared.descriptor.MatchDescReq.{MatchDescReq}
use Rattle.zdo_requests.specs.declared.descriptor.BindReq.{BindReq}
use Rattle.zdo_replies.specs.Replies.{addr_rsp, addr_rsp_single, list_rsp, empty_rsp, match_desc_rsp_error, described_rsp, status_rsp}
use Rattle.zdo_device.specs.Tables.{Pools, used, endpoint_record, record_fits, good_sizes, good_records, good_device, endpoint_of}
use Rattle.zdo_device.specs.declared.descriptor.EndpointDescriptor.{EndpointDescriptor}
use Rattle.zdo_device.specs.declared.descriptor.DeviceDescriptorConfig.{DeviceDescriptorConfig}
use Rattle.zdo_device.proofs.Records.{good_found}
use Rattle.zdo_device.proofs.Clusters.{inputs_fit, outputs_fit}
use Rattle.zdo_matching.specs.Matching.{wanted, match_list}
use Rattle.zdo_device_rsp.specs.TableReplies.{numbers, active_rsp_of, simple_rsp_of}
use Rattle.zdo_discovery.specs.Discovery.{our_address, on_nwk_addr, on_ieee_addr, about, on_node, on_power, on_simple, on_active, on_match, discovery, discovered}
use Rattle.zdo_discovery.specs.Host.{Host, Asked, good_host, resolved}
use Rattle.zdo_dispatcher.specs.Answers.{Answer, reply, leave, link_answer, on_link, answered, by_cluster, table_after, buffer_after}
use Rattle.demands.specs.ReadersRefuse.{byte_of, shorter}
use Rattle.demands.specs.Demand1.{runs_past, bad_device, bad_table, bad_tables, among, request_clusters, unknown, for_cluster, match_bytes, bind_bytes, bytes_needed, bad_mode, malformed, about_us, record_asked, record_clusters, crowded, looked_for, matched, address_room, simple_room, room_needed, too_long, Allowed, replies, leaves, refuses, Kept, Exactly, EachAnswered}
use Rattle.demands.proofs.ReadersRefuse.{byte_read}
use Rattle.demands.proofs.Frames.{reply_lengths}

-- ---- what is shown of an answer

-- of a reply its cluster and its length, of a leave nothing
data Outline : Type 0 where
  a_reply : ℕ → ℕ → Outline
  a_leave : Outline

-- what an answer shows
unfoldable outline : Answer → Outline
outline (reply cluster bytes u) = a_reply cluster (length bytes)
outline (leave q) = a_leave

-- a refusal by the number of the first reason that holds, of five, and else an answer that shows this
abbrev first_of : Bool → Bool → Bool → Bool → Bool → Outline → Outcome Outline
first_of one two three four five s =
    cond one (refusal 1) (cond two (refusal 2) (cond three (refusal 3) (cond four (refusal 4) (cond five (refusal 5) (answer s)))))

-- is it a refusal by this number?
abbrev is : ℕ → Outcome Outline → Bool
is n (answer s) = false
is n (refusal k) = eqb k n

-- an outcome is a refusal by a number exactly if that is its number
exactly : (o : Outcome Answer) (n : ℕ) → Exactly o n (is n (mapped outline o))
unfolding mapped
exactly (answer x) n = (λ e. absurd (refused (sym e)), λ e. absurd (false≢true e))
exactly (refusal k) n = (λ e. eq-eqb k n (cc), λ e. rw (eqb-true k n e))

-- the contract of `dispatch` leaves table and buffer where a refusal is told
kept_where_refused : (o : Outcome Answer) (t : BindingTable) → Kept o t
unfolding mapped table_after buffer_after
kept_where_refused (answer x) t n told u before after d e = absurd (refused (sym e ∙ d.said))
kept_where_refused (refusal k) t n told u before after d e = (d.table, d.buffer)

module _ (h : Host) (a : Asked) where
  -- what the answer to a request shows, where there is one
  abbrev expected : Outline
  expected = cond (eqb a.cluster MGMT_LEAVE_REQ_NUMBER) a_leave (a_reply (a.cluster + 0x8000) (room_needed h a))

  -- what is shown of a request, by whether the tables are bad
  abbrev first : Bool → Outcome Outline
  first bad = first_of bad (unknown a) (malformed a) (crowded h a) (too_long h a) expected

  -- what may be shown
  abbrev Shows : Outcome Outline → Type 0
  Shows (answer (a_reply cluster n)) = (cluster ≡ a.cluster + 0x8000) × (a.cluster ≡ MGMT_LEAVE_REQ_NUMBER → ⊥) × (n ≡ room_needed h a) × (n ≤ a.room)
  Shows (answer a_leave) = a.cluster ≡ MGMT_LEAVE_REQ_NUMBER
  Shows (refusal n) = (leb 1 n ≡ true) × (leb n 5 ≡ true)

  -- an outcome is allowed that shows it
  allowed_shown : (o : Outcome Answer) → Shows (mapped outline o) → Allowed h a o
  unfolding mapped outline
  allowed_shown (answer (reply cluster bytes u)) (raised, stays, long, fits) = rw raised (replies bytes u stays long fits)
  allowed_shown (answer (leave q)) e = leaves q e
  allowed_shown (refusal n) (low, high) = refuses n (leb-true 1 n low) (leb-true n 5 high)

  -- what is expected may be shown where it fits
  shows_expected :
      (leaves : Bool)
      → eqb a.cluster MGMT_LEAVE_REQ_NUMBER ≡ leaves
      → too_long h a ≡ false
      → Shows (answer (cond leaves a_leave (a_reply (a.cluster + 0x8000) (room_needed h a))))
  unfolding too_long
  shows_expected true e fits = eqb-true a.cluster MGMT_LEAVE_REQ_NUMBER e
  shows_expected false e fits = (refl, eqb-false a.cluster MGMT_LEAVE_REQ_NUMBER e, refl, ltb-false a.room (room_needed h a) fits)

  -- the first of five reasons, or what is expected: it may be shown, and each number is that of its reason where no earlier one holds
  first_reasons :
      (one two three four five : Bool)
      → too_long h a ≡ five
      → let o = first_of one two three four five expected in
      Shows o
      × (is 1 o ≡ one)
      × (is 2 o ≡ (not one && two))
      × (is 3 o ≡ (not one && not two && three))
      × (is 4 o ≡ (not one && not two && not three && four))
      × (is 5 o ≡ (not one && not two && not three && not four && five))
  first_reasons true b c d e long = ((refl, refl), refl, refl, refl, refl, refl)
  first_reasons false true c d e long = ((refl, refl), refl, refl, refl, refl, refl)
  first_reasons false false true d e long = ((refl, refl), refl, refl, refl, refl, refl)
  first_reasons false false false true e long = ((refl, refl), refl, refl, refl, refl, refl)
  first_reasons false false false false true long = ((refl, refl), refl, refl, refl, refl, refl)
  first_reasons false false false false false long = (shows_expected (eqb a.cluster MGMT_LEAVE_REQ_NUMBER) refl long, refl, refl, refl, refl, refl)

-- ---- tables

-- one number is at most another exactly if that is not less
turned : (a b : ℕ) → leb a b ≡ not (ltb b a)
turned a b = (elim (ltb b a) as (λ t. ltb b a ≡ t → leb a b ≡ not t) [ true ↦ λ e. lt-leb a b (ltb-true b a e) | false ↦ λ e. le-leb a b (ltb-false b a e) ]) refl

-- no number equals two different ones
apart : (n a b : ℕ) → eqb a b ≡ false → (eqb n a && eqb n b) ≡ false
apart n a b e = (elim (eqb n a) as (λ t. eqb n a ≡ t → (t && eqb n b) ≡ false) [ true ↦ λ same. rw (eqb-true n a same) e | false ↦ λ _. refl ]) refl

-- neither holds
neither : (a b : Bool) → (not a && not b) ≡ not (a || b)
neither true b = refl
neither false b = refl

-- where the greater of two numbers is at most 32, the lesser need not be tested
greater_few : (m n : ℕ) (b c d : Bool) → n ≤ m → (leb m 32 && (leb n 32 && b && c && d)) ≡ (leb m 32 && b && c && d)
greater_few m n b c d less = go (leb m 32) refl
  where
    go : (t : Bool) → leb m 32 ≡ t → (t && (leb n 32 && b && c && d)) ≡ (t && b && c && d)
    go true e = rw (le-leb n 32 (omega (arith, leb-true m 32 e)))
    go false e = refl

-- all pass a test exactly if none fails it
none_fails : {A : Type 0} (p q : A → Bool) → ((x : A) → p x ≡ not (q x)) → (xs : List A) → all p xs ≡ not (any q xs)
unfolding all any
none_fails p q same [] = refl
none_fails p q same (x ∷ xs) = rw (same x, none_fails p q same xs, neither)

-- a record fits exactly if it runs past no pool
record_fits_lem : (p : Pools) (e : EndpointDescriptor) → record_fits p e ≡ not (runs_past p e)
unfolding record_fits runs_past
record_fits_lem p e = rw (turned (e.input_start + e.input_count), turned (e.output_start + e.output_count), neither)

-- a device's tables are good exactly if they are not bad
device_good : (h : Host) → good_host h ≡ not (bad_device h)
unfolding good_host good_device good_records good_sizes bad_device used
device_good h =
    let p = h.pools in
    let n = h.device.endpoint_count in
    let fit = none_fails (record_fits p) (runs_past p) (record_fits_lem p) in
    rw (greater_few n (length (used h.device)) _ _ _ (rw length-take (omega arith)))
    (rw (turned n, turned (length p.inputs), turned (length p.outputs), fit, neither, neither, neither))

-- and so are all tables
tables_good : (h : Host) (t : BindingTable) → (good_host h && good_table t) ≡ not (bad_tables h t)
unfolding good_table bad_tables bad_table
tables_good h t = rw (device_good, turned t.count, turned t.limit, neither, neither)

-- ---- what is read, and what is sent

module _ {A B : Type 0} where
  -- a function of what a test chooses
  pub of_chosen : (f : A → B) (t : Bool) (x y : A) → f (cond t x y) ≡ cond t (f x) (f y)
  of_chosen f true x y = refl
  of_chosen f false x y = refl

  -- the same where a number is to be at most another
  of_least : (f : A → B) (m n : ℕ) (x y : A) → f (cond (leb m n) x y) ≡ cond (ltb n m) (f y) (f x)
  of_least f m n x y = rw (turned m n) (elim (ltb n m) as (λ t. f (cond (not t) x y) ≡ cond t (f y) (f x)) [ true ↦ refl | false ↦ refl ])

module _ {A B : Type 0} where
  -- a function of what needs n bytes
  of_needing : (f : Outcome A → B) (n : ℕ) (bytes : List ℕ) (a : A) → f (needing n bytes a) ≡ cond (shorter bytes n) (f (refusal 3)) (f (answer a))
  unfolding needing
  of_needing f n bytes a = of_least f n (length bytes) (answer a) (refusal 3)

  -- what comes next after an answer that is seen through f
  then_mapped : {C : Type 0} (f : A → B) (o : Outcome A) (next : B → Outcome C) → and_then (mapped f o) next ≡ and_then o (λ a. next (f a))
  unfolding mapped and_then
  then_mapped f (answer a) next = refl
  then_mapped f (refusal n) next = refl

-- what is shown of a reply of this cluster and length, in a buffer of this room
abbrev sent : ℕ → ℕ → Outcome ℕ → Outcome Outline
sent room cluster (answer n) = cond (ltb room n) (refusal 5) (answer (a_reply cluster n))
sent room cluster (refusal k) = refusal k

-- so it is of a reply that is to be sent
show_sent :
    (room cluster : ℕ) (u : BindingTable) (o : Outcome (List ℕ))
    → mapped outline (mapped (λ bytes. reply cluster bytes u) (fitted room o)) ≡ sent room cluster (mapped length o)
unfolding outline mapped fitted
show_sent room cluster u (refusal k) = refl
show_sent room cluster u (answer bytes) =
    of_least (λ o. mapped outline (mapped (λ bytes. reply cluster bytes u) o)) (length bytes) room (answer bytes) (refusal 5)

-- ---- the lengths of replies

module _ (us : Bool) (ours error : Outcome (List ℕ)) (m n : ℕ) (other : mapped length error ≡ answer n) where
  -- a reply about us, or an error
  about_length : mapped length ours ≡ answer m → mapped length (cond us ours error) ≡ answer (cond us m n)
  about_length e = elim us as (λ us. mapped length (cond us ours error) ≡ answer (cond us m n)) [ true ↦ e | false ↦ other ]

  -- the same where ours may be refused
  about_crowded :
      (four : Bool) → mapped length ours ≡ cond four (refusal 4) (answer m) → mapped length (cond us ours error) ≡ cond (us && four) (refusal 4) (answer (cond us m n))
  about_crowded four e =
      elim us as (λ us. mapped length (cond us ours error) ≡ cond (us && four) (refusal 4) (answer (cond us m n))) [ true ↦ e | false ↦ other ]

-- an address reply, by whether it is about us, and by its type
address_length :
    (seq : ℕ) (long : IeeeAddress) (short : ShortAddress) (type : ℕ) (us : Bool) (error : Outcome (List ℕ))
    → mapped length error ≡ answer 12
    → mapped length (cond us (our_address long short seq type) error) ≡ answer (address_room us type)
unfolding our_address address_room
address_length seq long short type us error other = go us (eqb type 0) (eqb type 1) (apart type 0 1 refl)
  where
    go :
        (us single extended : Bool)
        → (single && extended) ≡ false
        → mapped length (cond us (cond single (addr_rsp seq long short false) (cond extended (addr_rsp seq long short true) (addr_rsp_single seq INV_REQUESTTYPE long short))) error)
        ≡ answer (cond (us && extended) 14 12)
    go false single extended e = other
    go true true true e = absurd (false≢true (sym e))
    go true true false e = reply_lengths.single seq long short
    go true false true e = reply_lengths.extended seq long short
    go true false false e = reply_lengths.address_error seq INV_REQUESTTYPE long short

-- a part that ends within a list is as long as it says
part_length : (start n : ℕ) (xs : List ℕ) → start + n ≤ length xs → length (part start n xs) ≡ n
part_length start n xs h = length-take-le n (drop start xs) (rw length-drop (omega arith))

-- a record that fits has the clusters that it counts
clusters_counted : (p : Pools) (e : EndpointDescriptor) → record_fits p e ≡ true → cluster_count (endpoint_of p e) ≡ record_clusters e
unfolding cluster_count endpoint_of
clusters_counted p e fits =
    rw (part_length e.input_start _ p.inputs (inputs_fit p e fits), part_length e.output_start _ p.outputs (outputs_fit p e fits))

module _ (seq : ℕ) (address : ShortAddress) where
  -- a described endpoint, by whether it has too many clusters
  described_sized :
      (e : Endpoint) (many : Bool) → ltb 28 (cluster_count e) ≡ many → mapped length (described_rsp seq address e) ≡ cond many (refusal 4) (answer (13 + 2 * cluster_count e))
  unfolding described_rsp simple_written and_then mapped
  described_sized e true more = rw (lt-leb _ _ (ltb-true 28 (cluster_count e) more))
  described_sized e false few = reply_lengths.simple seq address e (ltb-false 28 (cluster_count e) few) ∙ ap answer (omega arith)

  -- a simple reply about us, by the record that is found
  simple_sized :
      (p : Pools) (d : DeviceDescriptorConfig) (n : ℕ)
      → good_device p d ≡ true
      → (found : Option EndpointDescriptor)
      → endpoint_record d n ≡ found
      → mapped length (option (empty_rsp seq NOT_ACTIVE address) (λ e. described_rsp seq address (endpoint_of p e)) found)
      ≡ cond (option false (λ e. ltb 28 (record_clusters e)) found) (refusal 4) (answer (option 5 (λ e. 13 + 2 * record_clusters e) found))
  unfolding option
  simple_sized p d n good None f = reply_lengths.list_error seq NOT_ACTIVE address
  simple_sized p d n good (Some e) f = rw (← clusters_counted p e (good_found p d good n refl (sym f))) (described_sized (endpoint_of p e) _ refl)

  -- a reply that lists a number for each of these
  list_length : {A : Type 0} (xs : List A) (f : A → ℕ) → mapped length (list_rsp seq address (map f xs)) ≡ answer (5 + length xs)
  list_length xs f = reply_lengths.list seq address (map f xs) ∙ ap (λ n. answer (5 + n)) (length-map xs f)

-- ---- match requests

module _ (payload : List ℕ) where
  -- where the lists stand
  abbrev pub lists : ClusterLists
  lists = record { input_clusters = counted payload 5; output_clusters = counted payload (behind 2 (counted payload 5)) }

  -- the request that is read
  abbrev pub match_req : MatchDescReq
  match_req = match_req_of (field_of match_widths payload) lists

  -- it needs the bytes of its lists
  pub match_read_lem :
      {A : Type 0} (next : MatchDescReq → Outcome A)
      → and_then (match_desc_req_in payload) next ≡ and_then (needing (match_bytes payload) payload lists) (λ l. next (match_req_of (field_of match_widths payload) l))
  unfolding match_desc_req_in lists_in match_bytes behind counted
  match_read_lem next =
      let n : ℕ = byte_of payload 5 in
      let end : 6 + 2 * n + 1 + 2 * byte_of payload (6 + 2 * n) ≡ 7 + 2 * n + 2 * byte_of payload (6 + 2 * n) = omega arith in
      rw (then_mapped, byte_read payload 5, byte_read payload (6 + 2 * n), end)

  -- what it looks for stands where it is said to
  pub wanted_read : wanted match_req payload ≡ looked_for payload
  unfolding wanted match_req_of match_widths fields_at counted behind entries_at looked_for
  wanted_read =
      let n : ℕ = byte_of payload 5 in
      let second : 6 + 2 * n + 1 ≡ 7 + 2 * n = omega arith in
      rw (byte_read payload 5, byte_read payload (6 + 2 * n), second)

  -- the reply to it has this length
  match_length :
      (h : Host)
      → mapped length (on_match h.device.node.logical_type (resolved h) h.nwk_addr payload match_req)
      ≡ answer (cond (about_us h payload) (5 + length (matched h payload)) 3)
  unfolding on_match about match_list matched about_us match_req_of match_widths fields_at
  match_length h =
      rw wanted_read (about_length (about_us h payload) _ (match_desc_rsp_error _ _) _ 3 (reply_lengths.match_error _ _) (list_length _ _ (matched h payload) _))

-- ---- bind and unbind requests

module _ (payload : List ℕ) where
  -- the mode stands at byte 12
  abbrev mode : ℕ
  mode = byte_of payload 12

  -- what is shown of what is read by one of two modes, and then refused by 5 where it is long
  show_mode :
      {A : Type 0} (group device long : Bool) (s : Outline) (x y : A) (next : A → Outcome Answer)
      → (group && device) ≡ false
      → ((q : A) → mapped outline (next q) ≡ cond long (refusal 5) (answer s))
      → mapped outline (and_then (cond group (needing 15 payload x) (cond device (needing 22 payload y) (refusal 3))) next)
      ≡ first_of false false (shorter payload (cond device 22 15) || not (group || device)) false long s
  unfolding mapped and_then
  show_mode true true long s x y next e after = absurd (false≢true (sym e))
  show_mode true false long s x y next e after = rw (of_needing (λ o. mapped outline (and_then o next)) 15 payload x, after x, or-false)
  show_mode false true long s x y next e after = rw (of_needing (λ o. mapped outline (and_then o next)) 22 payload y, after y, or-false)
  show_mode false false long s x y next e after = rw or-true

  -- so it is of a request whose reply is a status
  show_link :
      (room cluster : ℕ) (after : BindReq → BindingTable) (status : BindReq → ℕ)
      → mapped outline (and_then (bind_req_in payload) (λ q. mapped (λ bytes. reply cluster bytes (after q)) (fitted room (status_rsp q.seq (status q)))))
      ≡ first_of false false (shorter payload (bind_bytes payload) || not (eqb mode 1 || eqb mode 3)) false (ltb room 2) (a_reply cluster 2)
  unfolding bind_req_in destination_in group_in device_in bind_bytes
  show_link room cluster after status =
      rw (then_mapped, byte_read)
      (show_mode (eqb mode 1) (eqb mode 3) (ltb room 2) _ _ _ _ (apart mode 1 3 refl) (λ d. show_sent room cluster _ _ ∙ ap (sent room cluster) (reply_lengths.status _ _)))

-- ---- clusters

-- a property of each of these numbers
infixr 10 ◌&◌
data Each (P : ℕ → Type 0) : List ℕ → Type 0 where
  end : Each P []
  ◌&◌ : {x : ℕ} {xs : List ℕ} → P x → Each P xs → Each P (x ∷ xs)

-- any number has it, if each of these has it and a number that is none of them
each_or_none : (P : ℕ → Type 0) (c : ℕ) (xs : List ℕ) → Each P xs → (Each (λ x. eqb c x ≡ false) xs → P c) → P c
each_or_none P c [] end other = other end
each_or_none P c (x ∷ xs) (here & behind) other =
    (elim (eqb c x) as (λ t. eqb c x ≡ t → P c) [ true ↦ λ e. rw (eqb-true c x e) here | false ↦ λ e. each_or_none P c xs behind (λ None. other (e & None)) ]) refl

module _ (h : Host) (t : BindingTable) (payload : List ℕ) (room : ℕ) where
  -- the request of a cluster
  abbrev asks : ℕ → Asked
  asks c = record { cluster = c; payload = payload; room = room }

  -- what is shown, where the tables are good: the first reason that holds, or what is expected
  abbrev OutlineBy : ℕ → Type 0
  OutlineBy c = mapped outline (by_cluster h t (asks c)) ≡ first h (asks c) false

  -- a discovery request that needs n bytes, whose reply has this length
  show_discovery :
      {Q : Type 0} (c n : ℕ) (q : Q) (next : Q → Outcome (List ℕ))
      → mapped length (next q) ≡ cond (crowded h (asks c)) (refusal 4) (answer (room_needed h (asks c)))
      → mapped outline (mapped (λ bytes. reply (reply_cluster c) bytes t) (fitted room (and_then (needing n payload q) next)))
      ≡ first_of false false (shorter payload n || false) (crowded h (asks c)) (too_long h (asks c)) (a_reply (reply_cluster c) (room_needed h (asks c)))
  unfolding too_long mapped and_then
  show_discovery c n q next e =
      let made : Outcome ℕ → Outcome Outline = sent room (reply_cluster c) in
      rw (show_sent room (reply_cluster c) t, of_needing (λ o. made (mapped length (and_then o next))) n payload q, e, of_chosen made (crowded h (asks c)), or-false)

  -- any other cluster
  show_other : (c : ℕ) → Each (λ x. eqb c x ≡ false) request_clusters → OutlineBy c
  unfolding by_cluster discovered discovery unknown among any mapped fitted
  show_other c (e0 & e1 & e2 & e3 & e4 & e5 & e6 & e7 & e8 & e9 & end) = rw (e0, e1, e2, e3, e4, e5, e6, e7, e8, e9)

  -- each cluster
  show_cluster : good_device h.pools h.device ≡ true → (c : ℕ) → OutlineBy c
  unfolding mapped outline by_cluster discovered discovery unknown among any malformed bad_mode bytes_needed for_cluster too_long room_needed crowded about_us record_asked simple_room nwk_addr_req_in ieee_addr_req_in addr_of_interest_req_in addr_of_interest_widths simple_desc_req_in mgmt_leave_req_in parsed size fields_at on_nwk_addr on_ieee_addr on_node on_power on_simple on_active about simple_rsp_of active_rsp_of numbers on_link link_answer
  show_cluster good c =
      let us : Bool = about_us h payload in
      each_or_none OutlineBy c request_clusters
      (show_discovery NWK_ADDR_REQ_NUMBER 10 _ _ (rw (byte_read payload 9) (address_length _ _ _ _ _ _ (reply_lengths.address_error _ _ _ _)))
      & show_discovery IEEE_ADDR_REQ_NUMBER 4 _ _ (rw (byte_read payload 3) (address_length _ _ _ _ us _ (reply_lengths.address_error _ _ _ _)))
      & show_discovery NODE_DESC_REQ_NUMBER 3 _ _ (about_length us _ _ 17 4 (reply_lengths.descriptor_error _ _ _) (reply_lengths.node _ _ _))
      & show_discovery POWER_DESC_REQ_NUMBER 3 _ _ (about_length us _ _ 6 4 (reply_lengths.descriptor_error _ _ _) (reply_lengths.power _ _ _))
      & show_discovery SIMPLE_DESC_REQ_NUMBER 4 _ _ (rw (byte_read payload 3) (about_crowded us _ _ _ _ (reply_lengths.list_error _ _ _) _ (simple_sized _ _ _ _ _ good _ refl)))
      & show_discovery ACTIVE_EP_REQ_NUMBER 3 _ _ (about_length us _ _ _ _ (reply_lengths.list_error _ _ _) (list_length _ _ (used h.device) _))
      & (rw match_read_lem (show_discovery MATCH_DESC_REQ_NUMBER (match_bytes payload) _ _ (match_length payload h)))
      & show_link payload room _ _ _
      & show_link payload room _ _ _
      & (rw (of_needing (λ o. mapped outline (mapped leave o)) 10 payload _, le-ltb room 0 (omega arith), or-false))
      & end)
      (show_other c)

-- ---- all

-- a request is refused by the number of the first reason that holds, and else its answer shows what is expected
first_reason : (h : Host) (t : BindingTable) (a : Asked) → mapped outline (answered h t a) ≡ first h a (bad_tables h t)
unfolding answered mapped good_host
first_reason h t a = rw (tables_good h t) (go (bad_tables h t) refl)
  where
    go : (bad : Bool) → bad_tables h t ≡ bad → mapped outline (cond (not bad) (by_cluster h t a) (refusal 1)) ≡ first h a bad
    go true e = refl
    go false e = show_cluster h t a.payload a.room ((and-eq-true_iff (good_host h) (good_table t)).0 (tables_good h t ∙ ap not e)).0 a.cluster

pub each_answered : EachAnswered
each_answered h t a =
    let o = answered h t a in
    let reason = first_reason h t a in
    let (shows, one, two, three, four, five) = first_reasons h a (bad_tables h t) (unknown a) (malformed a) (crowded h a) (too_long h a) refl in
    record {
      allowed = allowed_shown h a o (rw reason shows);
      kept = kept_where_refused o t;
      one = rw (reason, one) at (exactly o 1);
      two = rw (reason, two) at (exactly o 2);
      three = rw (reason, three) at (exactly o 3);
      four = rw (reason, four) at (exactly o 4);
      five = rw (reason, five) at (exactly o 5);
    }
