-- Our server, with more room, loses no binding: a request that is a call does to the table what the call does, and any other does
-- nothing. Assumes nothing.
use Prim.Native.Nat.{ℕ, ◌%◌, ◌≤◌}
use mathlib.Core.Path.{◌≡◌, refl, sym}
use mathlib.Core.Bool.{false≢true}
use mathlib.Core.List.{List, [], map}
use Rattle.zigbee_types.specs.Lists.{any}
use Rattle.zigbee_types.specs.Outcome.{Outcome, answer, refusal, mapped}
use Rattle.aps_binding.specs.declared.binding.Binding.{Binding}
use Rattle.aps_binding_table.specs.Held.{Step}
use Rattle.aps_binding_table.specs.Table.{empty_table}
use Rattle.aps_binding_table.specs.declared.binding.BindingTable.{BindingTable}
use Rattle.aps_binding_table.proofs.Good.{Good}
use Rattle.zdo_requests.specs.Clusters.{reply_cluster}
use Rattle.zdo_discovery.specs.Host.{Host, Asked, asking}
use Rattle.zdo_dispatcher.specs.Answers.{replied, answered, table_after}
use Rattle.demands.specs.Calls.{Call, next}
use Rattle.demands.specs.Order.{Agree, equal, room, kept}
use Rattle.demands.specs.Demand1.{among}
use Rattle.demands.specs.Servers.{Request, asked_of, next_state, state_after, with_table, comes_of, dispatcher, Seen, seen}
use Rattle.demands.specs.Demand3.{Alike, MoreRoom, SuccessStays, OthersSame}
use Rattle.demands.specs.Demand3 as alike
use Rattle.demands.proofs.Runs.{left_alike}
use Rattle.demands.proofs.Calls.{stepped, Stepped, again, full, added, removed, absent, step_cases, told_step, next_placed}
use Rattle.demands.proofs.Order.{Behind, behind_next, behind_ordered, behind_empty}
use Rattle.demands.proofs.Requests.{Plain, replies, leaves, keeping, cluster_of, linked, status_bytes, Kind, idle, call, kind}
use Rattle.demands.proofs.Servers.{written_seen, shown, seen_shown}

-- ---- the table after a request

-- what does nothing leaves it
pub kept_table : (t : BindingTable) (o : Outcome Plain) → table_after t (mapped (keeping t) o) ≡ t
unfolding table_after mapped keeping
kept_table t (answer (replies cluster bytes)) = refl
kept_table t (answer (leaves q)) = refl
kept_table t (refusal n) = refl

-- a call leaves what the table's own function leaves
pub call_table : {t : BindingTable} (cluster seq : ℕ) (c : Call) → Good t → table_after t (answer (linked cluster seq t (stepped t c))) ≡ next t c
unfolding table_after linked
call_table cluster seq c g = sym (next_placed c g)

-- ---- what is seen of it

-- what does nothing shows the same on any two tables
kept_shown : (t u : BindingTable) (o : Outcome Plain) → shown (mapped (keeping t) o) ≡ shown (mapped (keeping u) o)
unfolding shown mapped keeping
kept_shown t u (answer (replies cluster bytes)) = refl
kept_shown t u (answer (leaves q)) = refl
kept_shown t u (refusal n) = refl

-- a status reply, as it is seen
abbrev status_seen : ℕ → ℕ → ℕ → Seen
status_seen cluster seq status = alike.replying (answer (replied (reply_cluster cluster) 2)) seq status []

-- where the statuses of one call on two tables agree, what is seen is alike
agree_alike : (cluster : ℕ) (seq : ℕ) (c : Call) (m n : ℕ) → cluster ≡ cluster_of c → Agree c (answer m) (answer n) → Alike cluster (status_seen cluster seq m) (status_seen cluster seq n)
agree_alike cluster seq c m n e (equal _ _) = alike.equal _
agree_alike cluster seq c m n e (room b) = alike.room _ seq [] e
agree_alike cluster seq c m n e (kept b) = alike.kept _ seq [] e

-- the status of a call is a byte
status_byte : {limit : ℕ} {xs : List Binding} {c : Call} {s : Step} → Stepped limit xs c s → s.status % 256 ≡ s.status
status_byte (again b h) = refl
status_byte (full b h e) = refl
status_byte (added b h e) = refl
status_byte (removed b h) = refl
status_byte (absent b h) = refl

-- so a call shows its status
pub call_shown : (cluster seq : ℕ) (t : BindingTable) (c : Call) → shown (answer (linked cluster seq t (stepped t c))) ≡ status_seen cluster (seq % 256) (stepped t c).status
unfolding shown written_seen linked
call_shown cluster seq t c = rw (status_bytes, status_byte (step_cases t c))

-- ---- a request on two tables

module _ (h : Host) {t u : BindingTable} (b : Behind t u) (a : Asked) where
  -- what is shown is alike
  pub shown_alike : Kind h a → Alike a.cluster (shown (answered h t a)) (shown (answered h u a))
  shown_alike (idle o _ _ is) = rw (is t b.less, is u b.more, kept_shown u t o) (alike.equal _)
  shown_alike (call c seq e _ is) =
      let agree : Agree c (answer (stepped t c).status) (answer (stepped u c).status) =
      rw (told_step c b.less, told_step c b.more) at ((behind_ordered b).statuses c) in
      rw (is t b.less, is u b.more, call_shown, call_shown) (agree_alike a.cluster (seq % 256) c _ _ e agree)

  -- and the tables after it stay as they were to each other
  behind_request : Kind h a → Behind (table_after t (answered h t a)) (table_after u (answered h u a))
  behind_request (idle o _ _ is) = rw (is t b.less, is u b.more, kept_table, kept_table) b
  behind_request (call c seq _ _ is) = rw (is t b.less, is u b.more, call_table _ seq c b.less, call_table _ seq c b.more) (behind_next c b)

-- ---- runs

module _ (h : Host) where
  -- what is so between two tables stays so, whatever is asked
  pub behind_state : (t u : BindingTable) (r q : Request) → asked_of r ≡ asked_of q → Behind t u → Behind (next_state (dispatcher h) t r) (next_state (dispatcher h) u q)
  unfolding with_table dispatcher comes_of
  behind_state t u r q e b = rw (← e) (behind_request h b (asked_of r) (kind h (asked_of r)))

  -- and is what demand 3 says
  pub behind_alike : {t u : BindingTable} → Behind t u → (r q : Request) → asked_of r ≡ asked_of q → Alike r.cluster (seen ((dispatcher h).serve t r)) (seen ((dispatcher h).serve u q))
  unfolding asking
  behind_alike {t} {u} b r q e = rw (seen_shown h t r, seen_shown h u q, ← e) (shown_alike h b (asked_of r) (kind h (asked_of r)))

  -- so it is after requests, from empty
  behind_run :
      (less more : ℕ)
      → less ≤ more
      → more ≤ 32
      → (rs qs : List Request)
      → map asked_of rs ≡ map asked_of qs
      → Behind (state_after (dispatcher h) (empty_table less) rs) (state_after (dispatcher h) (empty_table more) qs)
  behind_run less more e l rs qs same = left_alike (next_state (dispatcher h)) asked_of Behind behind_state rs qs same (behind_empty less more e l)

pub more_room : MoreRoom
unfolding with_table dispatcher
more_room h less more e l rs qs same =
    let b = behind_run h less more e l rs qs same in
    record { entries = (behind_ordered b).entries; answers = behind_alike h b }

-- ---- what it permits

pub success_stays : SuccessStays
success_stays cluster _ seq rest s (alike.equal _) = refl

pub others_same : OthersSame
unfolding among any
others_same cluster s u other (alike.equal _) = refl
others_same cluster s u other (alike.room _ _ _ e) = absurd (false≢true (sym (rw e at other)))
others_same cluster s u other (alike.kept _ _ _ e) = absurd (false≢true (sym (rw e at other)))
