-- `parse_addr_of_interest` meets its contract: it is the address of the request that was read. Assumes nothing.
use borrow.Author.Rules.{rules}
use Rattle.zigbee_types.specs.Outcome.{mapped}
use Rattle.zigbee_types.specs.Answers.{says}
use Rattle.zigbee_types.proofs.Passed.{passed_mapped}
use Rattle.zdo_requests.specs.Requests.{addr_of_interest_in}
use Rattle.zdo_requests.proofs.descriptor.parse_addr_of_interest.Goals as goal

ruleset laws = (rules, passed_mapped)

pub returns-in_err-request : goal.returns-in_err-request
unfolding addr_of_interest_in
returns-in_err-request c = search laws

pub returns : goal.returns
unfolding addr_of_interest_in says mapped
returns c = rw (← c.in_ok-request.ensures)
