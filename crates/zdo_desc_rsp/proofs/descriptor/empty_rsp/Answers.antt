-- `empty_rsp` meets its contract: the header is put, and a zero behind it. Assumes nothing.
use borrow.Author.Rules.{rules}
use Rattle.zigbee_types.specs.Answers.{says}
use Rattle.zigbee_types.specs.Bytes.{le}
use Rattle.zigbee_types.specs.Layout.{laid, size}
use Rattle.zigbee_types.proofs.Runs.{run_full}
use Rattle.zdo_replies.specs.Replies.{header, empty_rsp}
use Rattle.zdo_desc_rsp.proofs.Written.{empty_writes}
use Rattle.zdo_desc_rsp.proofs.descriptor.empty_rsp.Goals as goal

ruleset laws = (rules, run_full, empty_writes)

pub returns-then-out-lt5 : goal.returns-then-out-lt5
unfolding says size laid le header empty_rsp
returns-then-out-lt5 c = search laws

pub write-at-requires : goal.write-at-requires
unfolding says size laid le header empty_rsp
write-at-requires c = search laws

pub returns : goal.returns
unfolding says size laid le header empty_rsp
returns c = search laws
