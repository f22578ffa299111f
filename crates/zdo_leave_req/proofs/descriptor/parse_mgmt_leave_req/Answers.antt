-- `parse_mgmt_leave_req` meets its contract: three fields are read, the last one's flags by their masks. Assumes nothing.
use borrow.Author.Rules.{rules}
use Rattle.zigbee_types.specs.Layout.{size}
use Rattle.zigbee_types.proofs.Runs.{run_short}
use Rattle.zdo_requests.specs.Requests.{mgmt_leave_req_in}
use Rattle.zigbee_types.specs.Answers.{says}
use Rattle.zdo_leave_req.proofs.Parsed.{leave_read}
use Rattle.zdo_leave_req.proofs.descriptor.parse_mgmt_leave_req.Goals as goal

ruleset laws = (rules, leave_read, run_short)

pub returns-then-asdu-lt10 : goal.returns-then-asdu-lt10
unfolding size mgmt_leave_req_in says
returns-then-asdu-lt10 c = search laws

pub returns : goal.returns
unfolding size mgmt_leave_req_in says
returns c = search laws
