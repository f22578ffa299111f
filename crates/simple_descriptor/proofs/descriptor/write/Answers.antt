-- `descriptor::write` meets its contract: the clusters are counted, then the room, then the fields put. Assumes nothing.
use native.Mathlib.Omega.{arith}
use borrow.Author.Rules.{rules}
use Rattle.simple_descriptor.proofs.Written.{clusters_moved, simple_many, simple_full, front_put, simple_writes}
use Rattle.simple_descriptor.proofs.descriptor.write.Goals as goal

pub returns-then-count-gt-CLUSTERS : goal.returns-then-count-gt-CLUSTERS
returns-then-count-gt-CLUSTERS c = simple_many _ _ (omega arith)

pub returns-then-out-count : goal.returns-then-out-count
returns-then-out-count c = simple_full _ _ (omega arith) (omega arith)

pub write_clusters-at-requires-2 : goal.write_clusters-at-requires-2
write_clusters-at-requires-2 c = let h = clusters_moved _ c.write_clusters-at.ensures in search rules

pub returns : goal.returns
returns c =
    simple_writes _ _
    c.if-count-gt-CLUSTERS.false
    c.if-out-count.false
    (front_put _
    c.write-at.ensures
    c.write-at-2.ensures
    c.write-at-3.ensures
    c.nibble.ensures
    c.write-at-4.ensures)
    c.write_clusters-at.ensures
    c.write_clusters-at-2.ensures
