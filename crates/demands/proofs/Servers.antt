-- Our server is what `dispatch` promises, and what a caller of it sees goes by the outcome alone. Assumes nothing.
use Prim.Native.Nat.{ℕ}
use mathlib.Core.Path.{◌≡◌, refl}
use mathlib.Core.List.{List, []}
use lib.ListN.{length}
use lib.Seq.{take-append_seam}
use Rattle.zigbee_types.specs.Outcome.{Outcome, answer, refusal, mapped, written}
use Rattle.aps_binding_table.specs.declared.binding.BindingTable.{BindingTable}
use Rattle.zdo_discovery.specs.Host.{Host}
use Rattle.zdo_dispatcher.specs.Answers.{Answer, reply, leave, replied, leaving, told_of, answered, buffer_after}
use Rattle.demands.specs.Servers.{Request, asked_of, with_table, comes_of, dispatcher, bytes_of, Seen, seen, OursDispatches}

pub ours_dispatches : OursDispatches
unfolding with_table dispatcher comes_of
ours_dispatches h t r told u after d = λ i. record { told = d.said i; buffer = d.buffer i; state = d.table i }

-- ---- what is seen

-- what is seen of bytes that are written with a cluster, or of a refusal
unfoldable pub written_seen : ℕ → Outcome (List ℕ) → Seen
written_seen cluster (answer bytes) = record { told = answer (replied cluster (length bytes)); bytes = bytes }
written_seen cluster (refusal n) = record { told = refusal n; bytes = [] }

-- they stand at the front of the buffer
pub written_seen_lem :
    {S : Type 0} (cluster : ℕ) (o : Outcome (List ℕ)) (before : List ℕ) (x : S)
    → seen (record { told = mapped (λ xs. replied cluster (length xs)) o; buffer = written before o; state = x }) ≡ written_seen cluster o
unfolding seen written_seen mapped written bytes_of
written_seen_lem cluster (answer bytes) before x = rw take-append_seam
written_seen_lem cluster (refusal n) before x = refl

-- what is seen of an outcome
unfoldable pub shown : Outcome Answer → Seen
shown (answer (reply cluster bytes u)) = written_seen cluster (answer bytes)
shown (answer (leave q)) = record { told = answer (leaving q); bytes = [] }
shown (refusal n) = record { told = refusal n; bytes = [] }

-- so it is, whatever the buffer held
pub shown_seen : (t : BindingTable) (r : Request) (o : Outcome Answer) → seen (comes_of t r o) ≡ shown o
unfolding seen shown comes_of mapped told_of buffer_after bytes_of
shown_seen t r (answer (reply cluster bytes u)) = written_seen_lem cluster (answer bytes) r.buffer t
shown_seen t r (answer (leave q)) = refl
shown_seen t r (refusal n) = refl

-- and of what our server does
pub seen_shown : (h : Host) (t : BindingTable) (r : Request) → seen ((dispatcher h).serve t r) ≡ shown (answered h t (asked_of r))
unfolding with_table dispatcher
seen_shown h t r = shown_seen t r (answered h t (asked_of r))
