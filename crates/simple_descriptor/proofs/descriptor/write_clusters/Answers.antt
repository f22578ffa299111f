-- `descriptor::write_clusters` meets its contract. The loop's invariant: the clusters so far were put behind the count. Assumes nothing.
use borrow.Author.Rules.{rules}
use Rattle.zigbee_types.proofs.Entries.{entries_first, entries_next, entries_end}
use Rattle.simple_descriptor.proofs.descriptor.write_clusters.Goals as goal

ruleset laws = (rules, entries_first, entries_next, entries_end)

pub loop-cluster-init : goal.loop-cluster-init
loop-cluster-init c = search laws

pub loop-cluster-preserved : goal.loop-cluster-preserved
loop-cluster-preserved c = search laws

pub returns : goal.returns
returns c = search laws
