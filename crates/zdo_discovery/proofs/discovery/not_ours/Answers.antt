-- `not_ours` meets its contract, for each type. Assumes nothing.
use borrow.Author.Rules.{rules}
use Rattle.zdo_discovery.proofs.Handled.{of_coordinator, of_router, of_end_device, of_reserved}
use Rattle.zdo_discovery.proofs.discovery.not_ours.Goals as goal

ruleset laws = (rules, of_coordinator, of_router, of_end_device, of_reserved)

pub returns-in-Coordinator : goal.returns-in-Coordinator
returns-in-Coordinator c = search laws

pub returns-in-Router : goal.returns-in-Router
returns-in-Router c = search laws

pub returns-in-EndDevice : goal.returns-in-EndDevice
returns-in-EndDevice c = search laws

pub returns-in-Reserved : goal.returns-in-Reserved
returns-in-Reserved c = search laws
