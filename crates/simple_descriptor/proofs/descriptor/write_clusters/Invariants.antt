-- `descriptor::write_clusters` meets its contract. The loop's invariant: the clusters so far were put behind the count. Assumes nothing.
use Rattle.simple_descriptor.proofs.descriptor.write_clusters.Given as goal
use Rattle.zigbee_types.proofs.Entries.{EntriesPut}

abbrev pub invariant-loop-cluster : goal.invariant-loop-cluster
invariant-loop-cluster l = EntriesPut 2 l.clusters l.cluster-index l.initial.out l.initial.at l.at l.out
