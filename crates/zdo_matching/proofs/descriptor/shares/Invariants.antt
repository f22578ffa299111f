-- `shares` meets its contract. The outer loop's invariant: none of the clusters asked for so far is among one's own; the inner one's:
-- this cluster is not among those so far. Assumes nothing.
use mathlib.Core.Path.{◌≡◌}
use mathlib.Core.Bool.{false}
use Rattle.zdo_matching.proofs.descriptor.shares.Given as goal
use Rattle.zdo_matching.proofs.Shared.{Asked, Among}

abbrev pub invariant-loop-cluster : goal.invariant-loop-cluster
invariant-loop-cluster l = (l.found ≡ false) × Among l.asked.value l.own l.cluster-index

abbrev pub invariant-search : goal.invariant-search
invariant-search l = (l.found ≡ false) × Asked l.payload l.requested l.own l.k
