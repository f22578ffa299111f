-- Rules of document 01 about requests one after the other and about tables ("Matching", "Binding and dispatch", "Device tables and
-- sizes"), and that our server keeps them. A term of each theorem stands in proofs/.
use Rattle.std.specs.Prelude.{ℕ, ◌+◌, ◌%◌, ◌≤◌, ◌≡◌, Bool, true, false, ◌&&◌, not, List, [], ◌∷◌, map, eqb, length, drop}
use Rattle.zigbee_types.specs.Outcome.{Outcome, answer, refusal, mapped}
use Rattle.zigbee_types.specs.Statuses.{SUCCESS}
use Rattle.aps_binding.specs.declared.binding.Binding.{Binding}
use Rattle.aps_binding_table.specs.Held.{holds}
use Rattle.aps_binding_table.specs.Table.{empty_table, good_table}
use Rattle.aps_binding_table.specs.declared.binding.BindingTable.{BindingTable}
use Rattle.zdo_requests.specs.Clusters.{MATCH_DESC_REQ_NUMBER, BIND_REQ_NUMBER, UNBIND_REQ_NUMBER}
use Rattle.zdo_requests.specs.Requests.{bind_req_in, binding_of}
use Rattle.zdo_discovery.specs.Host.{Host, Asked}
use Rattle.zdo_dispatcher.specs.Answers.{told_of, answered, table_after, buffer_after}
use Rattle.demands.specs.Runs.{how_many}
use Rattle.demands.specs.Reached.{Reached}
use Rattle.demands.specs.Demand1.{discovery_clusters, among, matched}
use Rattle.demands.specs.Servers.{Request, Server, next_state, state_after, dispatcher, seen}

-- ---- isolation: discovery replies do not depend on the binding table

-- one request, on two binding tables: what is told and what the buffer then holds are the same, and each table stays as it is
pub record Isolated (h : Host) (t u : BindingTable) (a : Asked) (before : List ℕ) : Type 0 where
  pub told : mapped told_of (answered h t a) ≡ mapped told_of (answered h u a)
  pub buffer : buffer_after before (answered h t a) ≡ buffer_after before (answered h u a)
  pub first : table_after t (answered h t a) ≡ t
  pub second : table_after u (answered h u a) ≡ u

-- so it is with every discovery request and any two good tables, whatever the host. (One that is not good is refusal 1 by itself.)
abbrev pub Isolation : Type 0
Isolation =
    (h : Host) (t u : BindingTable) (a : Asked) (before : List ℕ)
    → good_table t ≡ true
    → good_table u ≡ true
    → among discovery_clusters a.cluster ≡ true
    → Isolated h t u a before

-- ---- history: the count is the binds that added less the unbinds that removed

-- has a reply the status SUCCESS in byte 1?
unfoldable pub says_success : List ℕ → Bool
says_success [] = false
says_success (seq ∷ []) = false
says_success (seq ∷ status ∷ rest) = eqb status SUCCESS

-- is an entry held, if there is one?
unfoldable pub held_of : Outcome Binding → List Binding → Bool
held_of (answer b) xs = holds b xs
held_of (refusal n) xs = false

-- is the entry held that a bind or an unbind request names? A request that cannot be read names none
unfoldable pub named_held : List ℕ → List Binding → Bool
named_held payload xs = held_of (mapped binding_of (bind_req_in payload)) xs

module _ {S : Type 0} (s : Server S) (x : S) (r : Request) where
  -- is it a request of this cluster, and the status of its reply SUCCESS?
  unfoldable pub succeeds_as : ℕ → Bool
  succeeds_as cluster = eqb r.cluster cluster && says_success (seen (s.serve x r)).bytes

  -- a bind added if its status is SUCCESS, no same entry was held before, and one is held after it
  unfoldable pub bind_adds : Bool
  bind_adds = succeeds_as BIND_REQ_NUMBER && (not (named_held r.payload (s.entries x)) && named_held r.payload (s.entries (next_state s x r)))

  -- an unbind removed if its status is SUCCESS, a same entry was held before, and none is held after it
  unfoldable pub unbind_removes : Bool
  unbind_removes = succeeds_as UNBIND_REQ_NUMBER && (named_held r.payload (s.entries x) && not (named_held r.payload (s.entries (next_state s x r))))

-- over any requests from empty, whatever the limit, the count and the unbinds that removed are together the binds that added
abbrev pub HistoryRule : {S : Type 0} → Server S → Type 0
HistoryRule s =
    (limit : ℕ) (rs : List Request)
    → s.count (state_after s (s.empty limit) rs) + how_many (next_state s) (unbind_removes s) (s.empty limit) rs
    ≡ how_many (next_state s) (bind_adds s) (s.empty limit) rs

-- ours keeps it
abbrev pub HistoryKept : Type 0
HistoryKept = (h : Host) → HistoryRule (dispatcher h)

-- ---- the table after any requests

-- from empty, with a limit of at most 32: no entry stands twice in it, the count is within the limit, zeros stand behind the count, and
-- only formed entries are held
abbrev pub ReachedByRequests : Type 0
ReachedByRequests = (h : Host) (limit : ℕ) → limit ≤ 32 → (rs : List Request) → Reached (state_after (dispatcher h) (empty_table limit) rs)

-- ---- matching

-- for a host: in every state, a match reply with the status SUCCESS has from byte 4 on how many endpoints match, and their numbers, each
-- as a byte, in table order
abbrev pub MatchingRule : {S : Type 0} → Host → Server S → Type 0
MatchingRule {S} h s =
    (x : S) (r : Request)
    → r.cluster ≡ MATCH_DESC_REQ_NUMBER
    → says_success (seen (s.serve x r)).bytes ≡ true
    → drop 4 (seen (s.serve x r)).bytes ≡ length (matched h r.payload) ∷ map (λ e. e.endpoint % 256) (matched h r.payload)

-- ours keeps it
abbrev pub MatchingKept : Type 0
MatchingKept = (h : Host) → MatchingRule h (dispatcher h)
