-- `ReplyHeader::try_read` meets its contract: three fields are read one behind the other. Assumes nothing.
use borrow.Author.Rules.{rules}
use Rattle.zigbee_types.specs.Layout.{size}
use Rattle.zigbee_types.proofs.Runs.{three_parse, run_short}
use Rattle.zdo_readers.specs.Readers.{header_widths, header_in}
use Rattle.zigbee_types.specs.Answers.{says}
use Rattle.zdo_readers.proofs.readers.ReplyHeader.try_read.Goals as goal

ruleset laws = (rules, three_parse, run_short)

pub returns-then-reply-lt4 : goal.returns-then-reply-lt4
unfolding size header_widths header_in says
returns-then-reply-lt4 c = search laws

pub returns : goal.returns
unfolding size header_widths header_in says
returns c = search laws
