-- `addr_rsp_single` meets its contract: the addresses are put. Assumes nothing.
use borrow.Author.Rules.{rules}
use Rattle.zigbee_types.specs.Answers.{says}
use Rattle.zigbee_types.specs.Layout.{size}
use Rattle.zigbee_types.proofs.Runs.{run_full}
use Rattle.zdo_replies.specs.Replies.{addr_header, addr_rsp_single}
use Rattle.zdo_addr_rsp.proofs.Written.{single_writes}
use Rattle.zdo_addr_rsp.proofs.descriptor.addr_rsp_single.Goals as goal

ruleset laws = (rules, run_full, single_writes)

pub returns-then-out-lt12 : goal.returns-then-out-lt12
unfolding says size addr_header addr_rsp_single
returns-then-out-lt12 c = search laws

pub returns : goal.returns
unfolding says size addr_header addr_rsp_single
returns c = search laws
