-- `our_address` meets its contract, for each type. Assumes nothing.
use borrow.Author.Rules.{rules}
use Rattle.zdo_discovery.proofs.Handled.{our_single, our_extended, our_other}
use Rattle.zdo_discovery.proofs.discovery.our_address.Goals as goal

ruleset laws = (rules, our_single, our_extended, our_other)

pub returns-in-0 : goal.returns-in-0
returns-in-0 c = search laws

pub returns-in-1 : goal.returns-in-1
returns-in-1 c = search laws

pub returns-in_default : goal.returns-in_default
returns-in_default c = search laws
