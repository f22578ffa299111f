-- `SimpleReply::try_read` meets its contract: the place of the descriptor, and what it has. Assumes nothing.
use Rattle.zigbee_types.proofs.Passed.{passed_then}
use Rattle.zdo_list_readers.specs.ListReaders.{simple_reply_in}
use Rattle.zdo_list_readers.proofs.Listed.{list_long}
use Rattle.zdo_list_readers.proofs.Within.{simple_headed}
use Rattle.zdo_list_readers.proofs.readers.SimpleReply.try_read.Goals as goal

pub returns-in_err-list : goal.returns-in_err-list
unfolding simple_reply_in
returns-in_err-list c = passed_then _ _ c.in_err-list.ensures c.from_residual.ensures _

pub within-requires : goal.within-requires
within-requires c = list_long _ _ c.in_ok-list.ensures

pub returns : goal.returns
returns c = simple_headed _ _ c.in_ok-list.ensures c.within.ensures
