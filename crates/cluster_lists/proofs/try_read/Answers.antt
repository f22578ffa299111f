-- `try_read` meets its contract: the two lists are where they are counted, or refused. Assumes nothing.
use borrow.Author.Rules.{rules}
use Rattle.zigbee_types.proofs.Counted.{lists_none, lists_one, lists_cut, lists_whole}
use Rattle.cluster_lists.proofs.try_read.Goals as goal

ruleset laws = (rules, lists_none, lists_one, lists_cut, lists_whole)

pub returns-then-bytes-at : goal.returns-then-bytes-at
returns-then-bytes-at c = search laws

pub returns-then-bytes-inputs : goal.returns-then-bytes-inputs
returns-then-bytes-inputs c = search laws

pub returns-then-bytes-outputs : goal.returns-then-bytes-outputs
returns-then-bytes-outputs c = search laws

pub returns : goal.returns
returns c = search laws
