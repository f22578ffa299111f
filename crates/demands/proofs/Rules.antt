-- Discovery replies do not depend on the binding table, the count of the table is the binds that added less the unbinds that
-- removed, the table stays sound, and a match reply has the numbers of those that match. Assumes nothing.
use Prim.Native.Nat.{ℕ, ◌%◌, ◌≤◌, min}
use native.Mathlib.Nat.{mod-eq_of_lt}
use native.Mathlib.Omega.{arith}
use mathlib.Core.Path.{◌≡◌, refl, sym, ◌∙◌}
use mathlib.Core.Bool.{Bool, true, false, ◌&&◌, not, cond, and-true, and-false, false≢true}
use mathlib.Core.List.{List, [], ◌∷◌, map, map-map}
use lib.Dec.{eqb, leb}
use lib.ListN.{length, drop, length-map}
use borrow.Author.Tests.{eqb-true}
use Rattle.zigbee_types.specs.Outcome.{Outcome, answer, refusal, and_then, mapped, needing, fitted}
use Rattle.zigbee_types.specs.Bytes.{le, bit}
use Rattle.zigbee_types.specs.Layout.{byte, laid}
use Rattle.zigbee_types.specs.Addresses.{same_short}
use Rattle.zigbee_types.specs.Lists.{any, filter}
use Rattle.zigbee_types.specs.Statuses.{SUCCESS}
use Rattle.zigbee_types.specs.declared.ShortAddress.{ShortAddress}
use Rattle.zigbee_types.proofs.Outcomes.{refused}
use Rattle.node_descriptor.specs.declared.LogicalType.{LogicalType}
use Rattle.node_descriptor.specs.declared.LogicalType.TheVariants.{Coordinator, Router, EndDevice, Reserved}
use Rattle.aps_binding.specs.declared.binding.Binding.{Binding}
use Rattle.aps_binding_table.specs.Held.{Step, holds}
use Rattle.aps_binding_table.specs.Table.{empty_table, good_table, held}
use Rattle.aps_binding_table.specs.declared.binding.BindingTable.{BindingTable}
use Rattle.aps_binding_table.proofs.Good.{Good, good_table_lem}
use Rattle.aps_binding_table.proofs.Holds.{last_held}
use Rattle.zdo_requests.specs.Clusters.{MATCH_DESC_REQ_NUMBER, BIND_REQ_NUMBER, UNBIND_REQ_NUMBER, MGMT_LEAVE_REQ_NUMBER, reply_cluster}
use Rattle.zdo_requests.specs.Requests.{bind_req_in, binding_to, binding_of}
use Rattle.zdo_requests.specs.declared.descriptor.BindReq.{BindReq}
use Rattle.zdo_requests.specs.declared.descriptor.BindReqDestination.{BindReqDestination}
use Rattle.zdo_requests.specs.declared.descriptor.BindReqDestination.TheVariants.{Group, Device}
use Rattle.zdo_replies.specs.Replies.{header, match_error_fields, match_desc_rsp_error, endpoint_list, list_rsp}
use Rattle.simple_descriptor.specs.SimpleDescriptor.{Endpoint}
use Rattle.zdo_matching.specs.Matching.{Wanted, matches, match_list}
use Rattle.zdo_discovery.specs.Host.{Host, Asked, asking, good_host, resolved}
use Rattle.zdo_discovery.specs.Discovery.{not_ours, about, on_match, discovery, discovered}
use Rattle.zdo_discovery.proofs.Places.{matches_few}
use Rattle.zdo_dispatcher.specs.Answers.{reply, told_of, answered, by_cluster, table_after, buffer_after}
use Rattle.demands.specs.Runs.{left}
use Rattle.demands.specs.Calls.{Call, bind, unbind, told, next}
use Rattle.demands.specs.History.{succeeded, adds, removes}
use Rattle.demands.specs.Reached.{Built, group, device, BuiltCall, distinct, Reached}
use Rattle.demands.specs.Servers.{Request, asked_of, next_state, with_table, comes_of, dispatcher}
use Rattle.demands.specs.Demand1.{discovery_clusters, among, match_bytes, looked_for, matched}
use Rattle.demands.specs.Rules.{Isolation, says_success, held_of, named_held, succeeds_as, bind_adds, unbind_removes, HistoryKept, ReachedByRequests, MatchingKept}
use Rattle.demands.proofs.Runs.{left_keeps, Balanced, left_balanced}
use Rattle.demands.proofs.Calls.{stepped, Stepped, again, full, added, removed, absent, step_cases, told_step, next_held}
use Rattle.demands.proofs.History.{turn}
use Rattle.demands.proofs.Distinct.{holds_gone}
use Rattle.demands.proofs.Reached.{once_step, sound_good, reached_next, reached_from_empty}
use Rattle.demands.proofs.Demand1.{of_chosen, match_read_lem, wanted_read}
use Rattle.demands.proofs.Requests.{Plain, replies, leaves, keeping, plain_bytes, found_plain, cluster_of, entry_of, linked, Kind, idle, call, kind, bad_refused}
use Rattle.demands.proofs.Servers.{written_seen, shown, seen_shown}
use Rattle.demands.proofs.Demand3.{kept_table, call_table, call_shown}

-- ---- what does nothing

-- it shows its bytes
plain_shown : (t : BindingTable) (o : Outcome Plain) → (shown (mapped (keeping t) o)).bytes ≡ plain_bytes o
unfolding shown written_seen mapped keeping plain_bytes
plain_shown t (answer (replies cluster bytes)) = refl
plain_shown t (answer (leaves q)) = refl
plain_shown t (refusal n) = refl

-- it tells the same on any two tables, and leaves the same in the buffer
plain_told :
    (t u : BindingTable) (before : List ℕ) (o : Outcome Plain)
    → (mapped told_of (mapped (keeping t) o) ≡ mapped told_of (mapped (keeping u) o))
    × (buffer_after before (mapped (keeping t) o) ≡ buffer_after before (mapped (keeping u) o))
unfolding mapped keeping told_of buffer_after
plain_told t u before (answer (replies cluster bytes)) = (refl, refl)
plain_told t u before (answer (leaves q)) = (refl, refl)
plain_told t u before (refusal n) = (refl, refl)

-- ---- isolation

-- what is not among some is none of those that are
none_of : (clusters : List ℕ) (k cluster : ℕ) → among clusters k ≡ false → among clusters cluster ≡ true → eqb cluster k ≡ false
none_of clusters k cluster out is = go (eqb cluster k) refl
  where
    go : (b : Bool) → eqb cluster k ≡ b → eqb cluster k ≡ false
    go false e = e
    go true e = absurd (false≢true (sym out ∙ rw (eqb-true cluster k e) at is))

-- what a discovery request comes to, the table left aside
abbrev found_by : Host → Asked → Outcome Plain
found_by h a = cond (good_host h) (mapped (replies (reply_cluster a.cluster)) (discovered h a)) (refusal 1)

-- it does nothing to a good table
found :
    (h : Host) (t : BindingTable) (a : Asked)
    → good_table t ≡ true
    → among discovery_clusters a.cluster ≡ true
    → answered h t a ≡ mapped (keeping t) (found_by h a)
unfolding answered by_cluster among any mapped
found h t a good is =
    let other : (k : ℕ) → among discovery_clusters k ≡ false → eqb a.cluster k ≡ false = λ k out. none_of discovery_clusters k a.cluster out is in
    rw (good, and-true, other BIND_REQ_NUMBER refl, other UNBIND_REQ_NUMBER refl, other MGMT_LEAVE_REQ_NUMBER refl, found_plain (reply_cluster a.cluster) (discovered h a) t)
    (sym (of_chosen (mapped (keeping t)) (good_host h) (mapped (replies (reply_cluster a.cluster)) (discovered h a)) (refusal 1)))

pub isolation : Isolation
isolation h t u a before good well is =
    let first = found h t a good is in
    let second = found h u a well is in
    let (told, buffer) = plain_told t u before (found_by h a) in
    record { told = rw (first, second) told; buffer = rw (first, second) buffer; first = rw (first, kept_table); second = rw (second, kept_table) }

-- ---- history

-- a bind that adds holds its entry afterwards
added_held :
    {limit : ℕ} {xs : List Binding} {b : Binding} {s : Step}
    → Stepped limit xs (bind b) s
    → (eqb s.status SUCCESS && (not (holds b xs) && holds b s.entries)) ≡ (eqb s.status SUCCESS && not (holds b xs))
added_held (again b h) = rw h
added_held (full b h e) = refl
added_held {xs = xs} (added b h e) = rw (h, last_held b xs)

-- an unbind that succeeds held it before, and not afterwards
removed_held :
    {limit : ℕ} {xs : List Binding} {b : Binding} {s : Step}
    → distinct xs ≡ true
    → Stepped limit xs (unbind b) s
    → (eqb s.status SUCCESS && (holds b xs && not (holds b s.entries))) ≡ eqb s.status SUCCESS
removed_held {xs = xs} d (removed b h) = rw (h, holds_gone b xs d)
removed_held d (absent b h) = refl

-- a table of thirty-two places in which no entry stands twice
record Whole (t : BindingTable) : Type 0 where
  places : length t.entries ≡ 32
  once : distinct (held t) ≡ true

module _ (h : Host) (t : BindingTable) (r : Request) where
  -- the table after a request is that of the outcome
  state_after_lem : next_state (dispatcher h) t r ≡ table_after t (answered h t (asked_of r))
  unfolding with_table dispatcher comes_of
  state_after_lem = refl

  -- and whether it succeeds is seen of the outcome
  succeeds_shown : (cluster : ℕ) → succeeds_as (dispatcher h) t r cluster ≡ (eqb r.cluster cluster && says_success (shown (answered h t (asked_of r))).bytes)
  unfolding succeeds_as
  succeeds_shown cluster = rw seen_shown

  -- what it removes and what it adds make the count, and the table after it is whole too
  abbrev Turn : Type 0
  Turn =
      Whole (next_state (dispatcher h) t r)
      × Balanced (next_state (dispatcher h)) (λ t. t.count) (unbind_removes (dispatcher h)) (bind_adds (dispatcher h)) t r

  -- so it is with what does nothing, and is no bind or unbind that succeeds
  idle_turn :
      (o : Outcome Plain)
      → Whole t
      → (eqb r.cluster BIND_REQ_NUMBER && says_success (plain_bytes o)) ≡ false
      → (eqb r.cluster UNBIND_REQ_NUMBER && says_success (plain_bytes o)) ≡ false
      → answered h t (asked_of r) ≡ mapped (keeping t) o
      → Turn
  unfolding bind_adds unbind_removes bit
  idle_turn o w d e is = (rw (state_after_lem, is, kept_table) w, rw (state_after_lem, succeeds_shown, succeeds_shown, is, kept_table, plain_shown, d, e))

  -- a call adds and removes what the table's own function does
  call_adds :
      (c : Call) (seq : ℕ)
      → Good t
      → distinct (held t) ≡ true
      → r.cluster ≡ cluster_of c
      → mapped binding_of (bind_req_in r.payload) ≡ answer (entry_of c)
      → answered h t (asked_of r) ≡ answer (linked r.cluster seq t (stepped t c))
      → (bind_adds (dispatcher h) t r ≡ adds t c) × (unbind_removes (dispatcher h) t r ≡ removes t c)
  unfolding bind_adds unbind_removes adds removes succeeded says_success named_held held_of with_table dispatcher comes_of
  call_adds (bind b) seq g d e named is =
      let left = call_table r.cluster seq (bind b) g in
      let added = added_held (step_cases t (bind b)) in
      (rw (succeeds_shown, is, call_shown, left, next_held (bind b) g, named, e, told_step (bind b) g) added, rw (succeeds_shown, e))
  call_adds (unbind b) seq g d e named is =
      let left = call_table r.cluster seq (unbind b) g in
      let removed = removed_held d (step_cases t (unbind b)) in
      (rw (succeeds_shown, e), rw (succeeds_shown, is, call_shown, left, next_held (unbind b) g, named, e, told_step (unbind b) g) removed)

  -- so it is with any request on a good table
  good_turn : Good t → Whole t → Kind h (asked_of r) → Turn
  unfolding asking
  good_turn g w (idle o d e is) = idle_turn o w d e (is t g)
  good_turn g w (call c seq e named is) =
      let (add, remove) = call_adds c seq g w.once e named (is t g) in
      let (long, even) = turn t c w.places in
      let after : Whole (next t c) = record { places = long; once = rw (next_held c g) (once_step (step_cases t c) w.once) } in
      (rw (state_after_lem, is t g, call_table r.cluster seq c g) after, rw (state_after_lem, is t g, call_table r.cluster seq c g, add, remove) even)

  -- and on any table: one that is not good stays
  request_turn : Whole t → Turn
  unfolding mapped plain_bytes says_success
  request_turn w = go (good_table t) refl
    where
      go : (good : Bool) → good_table t ≡ good → Turn
      go true e = good_turn (good_table_lem t w.places e) w (kind h (asked_of r))
      go false e = idle_turn (refusal 1) w (and-false (eqb r.cluster BIND_REQ_NUMBER)) (and-false (eqb r.cluster UNBIND_REQ_NUMBER)) (bad_refused h (asked_of r) t e)

pub history_kept : HistoryKept
unfolding with_table dispatcher empty_table held distinct
history_kept h limit rs =
    let ours = dispatcher h in
    let start : Whole (empty_table limit) = record { places = refl; once = refl } in
    omega (arith, left_balanced (next_state ours) (λ t. t.count) (unbind_removes ours) (bind_adds ours) Whole (request_turn h) rs (empty_table limit) start)

-- ---- the table after requests

-- the entry that a request names is one that `group` or `device` builds
named_built : (o : Outcome BindReq) {b : Binding} → mapped binding_of o ≡ answer b → Built b
unfolding mapped binding_of binding_to
named_built (refusal n) e = absurd (refused e)
named_built (answer q) {b} e =
    let is : b ≡ binding_to q.src_endpoint q.cluster_id q.destination = cc in
    rw is (to_built q.src_endpoint q.cluster_id q.destination)
  where
    to_built : (endpoint cluster : ℕ) (d : BindReqDestination) → Built (binding_to endpoint cluster d)
    to_built endpoint cluster (Group g) = group endpoint cluster g
    to_built endpoint cluster (Device a to) = device endpoint cluster a to

-- so a call is one of built entries
call_built : (c : Call) → Built (entry_of c) → BuiltCall c
call_built (bind b) built = built
call_built (unbind b) built = tt

-- a request keeps it so
reached_request : (h : Host) (t : BindingTable) (r : Request) → Kind h (asked_of r) → Reached t → Reached (next_state (dispatcher h) t r)
unfolding asking
reached_request h t r (idle o _ _ is) s = rw (state_after_lem h t r, is t (sound_good s.sound), kept_table) s
reached_request h t r (call c seq _ named is) s =
    let g = sound_good s.sound in
    rw (state_after_lem h t r, is t g, call_table r.cluster seq c g) (reached_next c (call_built c (named_built (bind_req_in r.payload) named)) s)

pub reached_by_requests : ReachedByRequests
unfolding left empty_table
reached_by_requests h limit l rs = left_keeps (next_state (dispatcher h)) Reached (λ t r s. reached_request h t r (kind h (asked_of r)) s) rs (reached_from_empty limit l [] tt)

-- ---- matching

-- a reply with the status SUCCESS goes on so from byte 4 on
abbrev Goes : List ℕ → List ℕ → Type 0
Goes rest bytes = says_success bytes ≡ true → drop 4 bytes ≡ rest

-- so does an outcome, where it is a reply
unfoldable GoesIn : List ℕ → Outcome (List ℕ) → Type 0
GoesIn rest (answer bytes) = Goes rest bytes
GoesIn rest (refusal k) = Unit {0}

module _ (rest : List ℕ) where
  -- it is so of one or the other
  chosen_goes : (t : Bool) (x y : Outcome (List ℕ)) → GoesIn rest x → GoesIn rest y → GoesIn rest (cond t x y)
  chosen_goes true x y c d = c
  chosen_goes false x y c d = d

  -- where there is room for it
  fitted_goes : (room : ℕ) (o : Outcome (List ℕ)) → GoesIn rest o → GoesIn rest (fitted room o)
  unfolding GoesIn fitted
  fitted_goes room (refusal k) c = tt
  fitted_goes room (answer xs) c = chosen_goes (leb (length xs) room) (answer xs) (refusal 5) c tt

  -- where it needs bytes
  needing_goes : {A : Type 0} (k : ℕ) (payload : List ℕ) (a : A) (next : A → Outcome (List ℕ)) → GoesIn rest (next a) → GoesIn rest (and_then (needing k payload a) next)
  unfolding GoesIn needing and_then
  needing_goes k payload a next c =
      elim (leb k (length payload)) as (λ t. GoesIn rest (and_then (cond t (answer a) (refusal 3)) next)) [ true ↦ c | false ↦ tt ]

  -- where it is handed on with its cluster and a table
  shown_goes : (cluster : ℕ) (t : BindingTable) (o : Outcome (List ℕ)) → GoesIn rest o → Goes rest (shown (mapped (λ bytes. reply cluster bytes t) o)).bytes
  unfolding GoesIn shown written_seen mapped says_success
  shown_goes cluster t (answer bytes) c = c
  shown_goes cluster t (refusal k) c = λ e. absurd (false≢true e)

  -- an error of match does not succeed
  error_goes : (seq : ℕ) (type : LogicalType) → GoesIn rest (match_desc_rsp_error seq (not_ours type))
  unfolding GoesIn match_desc_rsp_error match_error_fields not_ours laid le says_success
  error_goes seq Coordinator e = absurd (false≢true e)
  error_goes seq Router e = absurd (false≢true e)
  error_goes seq EndDevice e = absurd (false≢true e)
  error_goes seq (Reserved k) e = absurd (false≢true e)

-- numbers, each as a byte
bytes_laid : (xs : List ℕ) → laid (map byte xs) ≡ map (λ x. x % 256) xs
unfolding laid le
bytes_laid [] = refl
bytes_laid (x ∷ xs) = rw (bytes_laid xs)

-- a list of at most 32 numbers: its length, and the numbers
list_goes : (seq : ℕ) (address : ShortAddress) (xs : List ℕ) → length xs ≤ 32 → GoesIn (length xs ∷ map (λ x. x % 256) xs) (list_rsp seq address xs)
unfolding GoesIn list_rsp header endpoint_list laid le
list_goes seq address xs few e =
    let count : min (length xs) 255 % 256 ≡ length xs = mod-eq_of_lt (omega arith) ∙ omega arith in
    rw (count, bytes_laid xs)

-- so it is of a match reply, about us and not
about_goes :
    (type : LogicalType) (own address : ShortAddress) (seq : ℕ) (xs : List ℕ)
    → length xs ≤ 32
    → GoesIn (length xs ∷ map (λ x. x % 256) xs) (about type own address (list_rsp seq address xs) (λ status. match_desc_rsp_error seq status))
unfolding about
about_goes type own address seq xs few =
    chosen_goes (length xs ∷ map (λ x. x % 256) xs) (same_short address own) _ _ (list_goes seq address xs few) (error_goes (length xs ∷ map (λ x. x % 256) xs) seq type)

-- what is to go on from there
abbrev found_list : Host → List ℕ → List ℕ
found_list h payload = length (matched h payload) ∷ map (λ e. e.endpoint % 256) (matched h payload)

-- a match request to a host with good tables
match_goes : (h : Host) (payload : List ℕ) → good_host h ≡ true → GoesIn (found_list h payload) (discovery h MATCH_DESC_REQ_NUMBER payload)
unfolding discovery on_match good_host matched match_list resolved
match_goes h payload good =
    let w : Wanted = looked_for payload in
    let xs : List Endpoint = filter (matches w) (resolved h) in
    let long : length (match_list w (resolved h)) ≡ length xs = length-map xs (λ e. e.endpoint) in
    let numbers : map (λ x. x % 256) (match_list w (resolved h)) ≡ map (λ e. e.endpoint % 256) xs = map-map (λ x. x % 256) (λ e. e.endpoint) xs in
    rw (match_read_lem, ← long, ← numbers)
    (needing_goes _ (match_bytes payload) payload _ _
    (rw wanted_read (about_goes _ _ _ _ (match_list w (resolved h)) (matches_few w h.pools h.device good))))

-- so it is, whatever the tables
seen_goes : (h : Host) (t : BindingTable) (a : Asked) → a.cluster ≡ MATCH_DESC_REQ_NUMBER → Goes (found_list h a.payload) (shown (answered h t a)).bytes
unfolding answered by_cluster discovered shown says_success
seen_goes h t a e = go (good_host h) (good_table t) refl refl
  where
    go : (p q : Bool) → good_host h ≡ p → good_table t ≡ q → Goes (found_list h a.payload) (shown (answered h t a)).bytes
    go true true d f = rw (d, f, e) (shown_goes _ _ t _ (fitted_goes _ a.room _ (match_goes h a.payload d)))
    go true false d f = rw (d, f) (λ no. absurd (false≢true no))
    go false q d f = rw d (λ no. absurd (false≢true no))

pub matching_kept : MatchingKept
unfolding asking
matching_kept h t r e = rw seen_shown (seen_goes h t (asked_of r) e)
