-- `parse_nwk_addr_req` meets its contract: three fields are read one behind the other. Assumes nothing.
use borrow.Author.Rules.{rules}
use Rattle.zigbee_types.specs.Layout.{size}
use Rattle.zigbee_types.proofs.Runs.{three_parse, run_short}
use Rattle.zdo_requests.specs.Requests.{nwk_addr_req_in}
use Rattle.zigbee_types.specs.Answers.{says}
use Rattle.zdo_requests.proofs.descriptor.parse_nwk_addr_req.Goals as goal

ruleset laws = (rules, three_parse, run_short)

pub returns-then-asdu-lt10 : goal.returns-then-asdu-lt10
unfolding size nwk_addr_req_in says
returns-then-asdu-lt10 c = search laws

pub returns : goal.returns
unfolding size nwk_addr_req_in says
returns c = search laws
