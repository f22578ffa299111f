-- Five useless servers meet demand 3 and differ from ours, one with invented counts breaks two rules, and one breaks demand 3. Assumes
-- nothing.
use Prim.Native.Nat.{ℕ}
use native.Mathlib.Omega.{arith}
use mathlib.Core.Path.{◌≡◌, refl, sym, ap}
use mathlib.Core.Bool.{Bool, true, false, false≢true}
use lib.Dec.{eqb}
use mathlib.Core.List.{List, [], ◌∷◌}
use Rattle.zigbee_types.specs.Lists.{all, any, filter, find, option}
use Rattle.zigbee_types.specs.Outcome.{Outcome, answer, refusal, and_then, mapped, needing, fitted, written}
use Rattle.zigbee_types.specs.Bytes.{le, number, number_at, bit}
use Rattle.zigbee_types.specs.Layout.{laid, size, fields_at, parsed, counted, behind, entries_at, lists_in}
use Rattle.zigbee_types.specs.Statuses.{SUCCESS, TABLE_FULL}
use Rattle.node_descriptor.specs.NodeDescriptor.{node_byte0, node_byte1, node_descriptor_of}
use Rattle.aps_binding.specs.Entry.{zero_binding, key, alike, same}
use Rattle.aps_binding_table.specs.Held.{Step, holds, bound_as, bound}
use Rattle.aps_binding_table.specs.Table.{empty_table, good_table, held, placed}
use Rattle.aps_binding_table.specs.declared.binding.BindingTable.{BindingTable}
use Rattle.aps_binding_table.proofs.Good.{count_fits}
use Rattle.zdo_requests.specs.Clusters.{MATCH_DESC_REQ_NUMBER, reply_cluster}
use Rattle.zdo_requests.specs.Requests.{addr_of_interest_widths, addr_of_interest_req_in, match_widths, match_req_of, match_desc_req_in, bind_widths, bind_req_of, group_in, destination_in, bind_req_in, binding_to, binding_of}
use Rattle.zdo_replies.specs.Replies.{header, node_desc_rsp, endpoint_list, list_rsp, status_fields, status_rsp}
use Rattle.zdo_device.specs.Tables.{used, endpoint_record, supports_endpoint, record_fits, good_sizes, good_records, good_device, endpoint_of, resolved_in}
use Rattle.zdo_matching.specs.Matching.{wanted, profile_matches, shared, matches, match_list}
use Rattle.zdo_discovery.specs.Host.{Host, Asked, asking, good_host, resolved}
use Rattle.zdo_discovery.specs.Discovery.{about, on_node, on_match, discovery, discovered}
use Rattle.zdo_dispatcher.specs.Answers.{Answer, reply, leave, Told, replied, leaving, step_of, source_status, link_step, link_answer, on_link, by_cluster, answered, table_after, buffer_after, told_of}
use Rattle.demands.specs.ReadersRefuse.{byte_of}
use Rattle.demands.specs.Runs.{left, how_many}
use Rattle.demands.specs.Calls.{Call, bind, unbind}
use Rattle.demands.specs.Servers.{Request, asked_of, next_state, with_table, comes_of, dispatcher, bytes_of, Seen, seen}
use Rattle.demands.specs.Demand1.{among, looked_for, matched}
use Rattle.demands.specs.Demand3.{Alike, equal, room, kept, Demand3}
use Rattle.demands.specs.Rules.{says_success, held_of, named_held, succeeds_as, bind_adds, unbind_removes}
use Rattle.demands.specs.Useless.{holding_nothing, refusing, fixed, full, telling_limit, without_bytes, silent, sealed, once, with_nine, inventing, requesting, node_request, node_reply, bind_request_a, UselessVersions, InventedCount, LimitTold}
use Rattle.demands.proofs.Runs.{left_alike}
use Rattle.demands.proofs.Calls.{stepped}
use Rattle.demands.proofs.Order.{Behind, behind_ordered, behind_limited, behind_empty}
use Rattle.demands.proofs.Requests.{Plain, replies, leaves, keeping, cluster_of, linked, Kind, idle, call, kind}
use Rattle.demands.proofs.Servers.{written_seen, written_seen_lem, shown, shown_seen}
use Rattle.demands.proofs.Demand3.{shown_alike, behind_state, behind_alike, more_room, others_same}

-- ---- they meet demand 3

-- what is seen of a server that holds nothing goes by its limit and what is asked
nothing_seen :
    (cluster : ℕ → Asked → ℕ) (bytes : ℕ → Asked → Outcome (List ℕ)) (limit : ℕ) (r : Request)
    → seen ((holding_nothing cluster bytes).serve limit r) ≡ written_seen (cluster limit (asked_of r)) (fitted (asked_of r).room (bytes limit (asked_of r)))
unfolding holding_nothing
nothing_seen cluster bytes limit r = written_seen_lem (cluster limit (asked_of r)) (fitted (asked_of r).room (bytes limit (asked_of r))) r.buffer limit

-- so what is seen of one that does not look at its limit is the same with any two limits
nothing_alike :
    (cluster : Asked → ℕ) (bytes : Asked → Outcome (List ℕ)) (x y : ℕ) (r u : Request)
    → asked_of r ≡ asked_of u
    → Alike r.cluster (seen ((holding_nothing (λ limit. cluster) (λ limit. bytes)).serve x r)) (seen ((holding_nothing (λ limit. cluster) (λ limit. bytes)).serve y u))
nothing_alike cluster bytes x y r u is =
    rw (nothing_seen (λ limit. cluster) (λ limit. bytes) x r, nothing_seen (λ limit. cluster) (λ limit. bytes) y u, is) (equal _)

-- so it meets it
nothing_meets : (cluster : Asked → ℕ) (bytes : Asked → Outcome (List ℕ)) → Demand3 (holding_nothing (λ limit. cluster) (λ limit. bytes))
unfolding holding_nothing
nothing_meets cluster bytes less more e l rs qs is = record { entries = λ b h. h; answers = nothing_alike cluster bytes _ _ }

-- alike answers are told alike
alike_told : {cluster : ℕ} {s u : Seen} → Alike cluster s u → s.told ≡ u.told
alike_told (equal _) = refl
alike_told (room _ _ _ e) = refl
alike_told (kept _ _ _ e) = refl

-- a reply that is told without bytes has none
no_bytes : (told : Outcome Told) (buffer : List ℕ) → bytes_of (mapped without_bytes told) buffer ≡ []
unfolding bytes_of mapped without_bytes
no_bytes (answer (replied cluster n)) buffer = refl
no_bytes (answer (leaving q)) buffer = refl
no_bytes (refusal n) buffer = refl

-- so one that tells what ours tells, without the bytes, meets it
silent_meets : (h : Host) → Demand3 (silent h)
unfolding silent with_table dispatcher comes_of seen
silent_meets h less more e l rs qs is =
    let ours = more_room h less more e l rs qs is in
    record { entries = ours.entries; answers = λ r q asks. rw (no_bytes, no_bytes, alike_told (ours.answers r q asks)) (equal _) }

-- tables stay what they are to each other where both are left without room
behind_sealed : {t u : BindingTable} → Behind t u → Behind (sealed t) (sealed u)
unfolding sealed
behind_sealed {t} {u} b = behind_limited t.count u.count b (omega arith) (count_fits b.less) (omega arith) (count_fits b.more) (omega arith)

-- so one that is left so after each call meets it
once_meets : (h : Host) → Demand3 (once h)
unfolding with_table once seen
once_meets h less more e l rs qs is =
    let b = left_alike (next_state (once h)) asked_of Behind (λ t u r q asks s. behind_sealed (behind_state h t u r q asks s)) rs qs is (behind_empty less more e l) in
    record { entries = (behind_ordered b).entries; answers = behind_alike h b }

-- nine in a match reply leaves the table as it was
nine_table : (t : BindingTable) (o : Outcome Answer) → table_after t (with_nine o) ≡ table_after t o
unfolding table_after with_nine
nine_table t (answer (reply cluster bytes u)) = refl
nine_table t (answer (leave q)) = refl
nine_table t (refusal n) = refl

-- and the replies to bind and unbind
nine_linked : (cluster seq : ℕ) (t : BindingTable) (c : Call) (s : Step) → cluster ≡ cluster_of c → with_nine (answer (linked cluster seq t s)) ≡ answer (linked cluster seq t s)
unfolding with_nine linked
nine_linked cluster seq t (bind b) s e = rw e
nine_linked cluster seq t (unbind b) s e = rw e

-- what does nothing shows the same on any two tables
nine_kept : (t u : BindingTable) (o : Outcome Plain) → shown (with_nine (mapped (keeping t) o)) ≡ shown (with_nine (mapped (keeping u) o))
unfolding shown with_nine mapped keeping
nine_kept t u (answer (replies cluster bytes)) = refl
nine_kept t u (answer (leaves q)) = refl
nine_kept t u (refusal n) = refl

-- so what is shown is alike
nine_alike : (h : Host) {t u : BindingTable} → Behind t u → (a : Asked) → Kind h a → Alike a.cluster (shown (with_nine (answered h t a))) (shown (with_nine (answered h u a)))
nine_alike h {t} {u} b a (idle o _ _ is) = rw (is t b.less, is u b.more, nine_kept u t o) (equal _)
nine_alike h {t} {u} b a (call c seq e named is) =
    rw (is t b.less, is u b.more, nine_linked a.cluster seq t c (stepped t c) e, nine_linked a.cluster seq u c (stepped u c) e)
    (rw (is t b.less, is u b.more) at (shown_alike h b a (call c seq e named is)))

-- and so is what is seen of one that invents counts
inventing_alike : (h : Host) {t u : BindingTable} → Behind t u → (r q : Request) → asked_of r ≡ asked_of q → Alike r.cluster (seen ((inventing h).serve t r)) (seen ((inventing h).serve u q))
unfolding inventing asking
inventing_alike h {t} {u} b r q is =
    rw (shown_seen t r (with_nine (answered h t (asked_of r))), shown_seen u q (with_nine (answered h u (asked_of q))), ← is) (nine_alike h b (asked_of r) (kind h (asked_of r)))

-- two of its tables stay to each other as ours do
inventing_state : (h : Host) (t u : BindingTable) (r q : Request) → asked_of r ≡ asked_of q → Behind t u → Behind (next_state (inventing h) t r) (next_state (inventing h) u q)
unfolding inventing with_table dispatcher comes_of
inventing_state h t u r q is b = rw (nine_table, nine_table) (behind_state h t u r q is b)

-- so it meets it
inventing_meets : (h : Host) → Demand3 (inventing h)
unfolding inventing
inventing_meets h less more e l rs qs is =
    let b = left_alike (next_state (inventing h)) asked_of Behind (inventing_state h) rs qs is (behind_empty less more e l) in
    record { entries = (behind_ordered b).entries; answers = inventing_alike h b }

-- ---- they differ from ours

-- is it an answer?
abbrev is_answer : Outcome Told → Bool
is_answer (answer a) = true
is_answer (refusal n) = false

-- is this byte seen at a place?
abbrev has_byte : ℕ → ℕ → Seen → Bool
has_byte i b s = eqb (byte_of s.bytes i) b

pub useless_versions : UselessVersions
unfolding all any find option and_then mapped needing fitted written le number number_at laid size fields_at parsed node_byte0 node_byte1 node_descriptor_of zero_binding key alike same holds bound_as bound empty_table good_table held placed addr_of_interest_widths addr_of_interest_req_in bind_widths bind_req_of group_in destination_in bind_req_in binding_to binding_of header node_desc_rsp status_fields status_rsp used endpoint_record supports_endpoint record_fits good_sizes good_records good_device asking good_host about on_node discovery discovered step_of source_status link_step link_answer on_link by_cluster answered table_after buffer_after told_of left comes_of with_table dispatcher bytes_of seen holding_nothing refusing fixed full without_bytes silent sealed once
useless_versions =
    record {
      refuses = λ n. record { meets = λ h. nothing_meets (λ a. 0) (λ a. refusal n); differs = λ e. false≢true (ap (λ s. is_answer s.told) e) };
      replies = record { meets = λ h. nothing_meets (λ a. 0x8002) (λ a. answer node_reply); differs = λ e. false≢true (sym (ap (has_byte 0 7) e)) };
      writes_nothing = record { meets = silent_meets; differs = λ e. false≢true (ap (has_byte 0 7) e) };
      always_full =
          record {
            meets = λ h. nothing_meets (λ a. reply_cluster a.cluster) (λ a. answer (byte_of a.payload 0 ∷ TABLE_FULL ∷ []));
            differs = λ e. false≢true (ap (has_byte 1 SUCCESS) e);
          };
      binds_once = record { meets = once_meets; differs = λ e. false≢true (ap (has_byte 1 SUCCESS) e) };
    }

-- ---- an invented count

-- K7's request
abbrev match_request : Request
match_request = requesting MATCH_DESC_REQ_NUMBER (0x09 ∷ 0x34 ∷ 0x12 ∷ 0x04 ∷ 0x01 ∷ 0x01 ∷ 0x02 ∷ 0x04 ∷ 0x00 ∷ [])

pub invented_count : InventedCount
unfolding all any filter find option and_then mapped needing fitted written le number number_at laid size fields_at counted behind entries_at lists_in bit zero_binding key alike same holds bound_as bound empty_table good_table held placed match_widths match_req_of match_desc_req_in bind_widths bind_req_of group_in destination_in bind_req_in binding_to binding_of header endpoint_list list_rsp status_fields status_rsp used endpoint_record supports_endpoint record_fits good_sizes good_records good_device endpoint_of resolved_in wanted profile_matches shared matches match_list asking good_host resolved about on_match discovery discovered step_of source_status link_step link_answer on_link by_cluster answered table_after buffer_after told_of left how_many comes_of bytes_of seen looked_for matched says_success held_of named_held succeeds_as bind_adds unbind_removes with_nine inventing
invented_count =
    record {
      meets = inventing_meets;
      matching = λ rule. false≢true (ap (λ bytes. eqb (byte_of bytes 0) 1) (rule (empty_table 32) match_request refl refl));
      history = λ rule. false≢true (ap (λ n. eqb n 1) (rule 32 (bind_request_a ∷ [])));
    }

-- ---- a server that demand 3 excludes

pub limit_told : LimitTold
unfolding among any asking written fitted mapped holding_nothing telling_limit bytes_of seen left
limit_told demand =
    let one = (demand 0 1 (omega arith) (omega arith) [] [] refl).answers (node_request 7) (node_request 7) refl in
    false≢true (ap (has_byte 0 0) (others_same _ _ _ refl one))
