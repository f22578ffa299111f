-- `read_list` meets its contract: a byte that was read counts the list behind it. Assumes nothing.
use Rattle.zigbee_types.proofs.Counted.{list_counted}
use Rattle.cluster_lists.proofs.read_list.Goals as goal

pub returns : goal.returns
returns c = search list_counted
