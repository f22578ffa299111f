-- `status_rsp` meets its contract: two fields are put one behind the other. Assumes nothing.
use borrow.Author.Rules.{rules}
use Rattle.zigbee_types.specs.Answers.{says}
use Rattle.zigbee_types.specs.Layout.{size}
use Rattle.zigbee_types.proofs.Runs.{run_put_none, run_put_more, run_writes, run_full}
use Rattle.zdo_replies.specs.Replies.{status_fields, status_rsp}
use Rattle.zdo_replies.proofs.descriptor.status_rsp.Goals as goal

ruleset laws = (rules, run_put_none, run_put_more, run_writes, run_full)

pub returns-then-out-lt2 : goal.returns-then-out-lt2
unfolding says size status_fields status_rsp
returns-then-out-lt2 c = search laws

pub returns : goal.returns
unfolding says size status_fields status_rsp
returns c = search laws
