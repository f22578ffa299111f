-- `AddrReply::try_read` meets its contract: four fields are read one behind the other, and what an extended reply adds. Assumes nothing.
use borrow.Author.Rules.{rules}
use Rattle.zigbee_types.specs.Layout.{size}
use Rattle.zigbee_types.proofs.Runs.{run_short}
use Rattle.zdo_readers.proofs.Longer.{addr_parse}
use Rattle.zdo_readers.specs.Readers.{addr_widths, addr_reply_in}
use Rattle.zigbee_types.specs.Answers.{says}
use Rattle.zdo_readers.proofs.readers.AddrReply.try_read.Goals as goal

ruleset laws = (rules, run_short, addr_parse)

pub returns-then-reply-lt12 : goal.returns-then-reply-lt12
unfolding size addr_widths addr_reply_in says
returns-then-reply-lt12 c = search laws

pub returns : goal.returns
unfolding size addr_widths addr_reply_in says
returns c = search laws
