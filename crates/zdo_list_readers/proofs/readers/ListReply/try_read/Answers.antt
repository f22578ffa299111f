-- `ListReply::try_read` meets its contract: the header, and the list behind it. Assumes nothing.
use Rattle.zigbee_types.proofs.Passed.{passed_then}
use Rattle.zdo_readers.proofs.Headed.{headed}
use Rattle.zdo_list_readers.specs.ListReaders.{list_reply_in}
use Rattle.zdo_list_readers.proofs.readers.ListReply.try_read.Goals as goal

pub returns-in_err-header : goal.returns-in_err-header
unfolding list_reply_in
returns-in_err-header c = passed_then _ _ c.in_err-header.ensures c.from_residual.ensures _

pub returns : goal.returns
unfolding list_reply_in
returns c = headed _ _ c.in_ok-header.ensures _ c.behind.ensures
