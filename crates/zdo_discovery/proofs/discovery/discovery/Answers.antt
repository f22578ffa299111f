-- `discovery` meets its contract, for each cluster. Assumes nothing.
use borrow.Author.Rules.{rules}
use Rattle.zdo_discovery.proofs.ByCluster.{by_nwk_addr, by_ieee_addr, by_node, by_power, by_simple, by_active, by_match, by_none}
use Rattle.zdo_discovery.proofs.discovery.discovery.Goals as goal

ruleset laws = (rules, by_nwk_addr, by_ieee_addr, by_node, by_power, by_simple, by_active, by_match)

pub returns-in-0 : goal.returns-in-0
returns-in-0 c = search laws

pub returns-in-1 : goal.returns-in-1
returns-in-1 c = search laws

pub returns-in-2 : goal.returns-in-2
returns-in-2 c = search laws

pub returns-in-3 : goal.returns-in-3
returns-in-3 c = search laws

pub returns-in-4 : goal.returns-in-4
returns-in-4 c = search laws

pub returns-in-5 : goal.returns-in-5
returns-in-5 c = search laws

pub returns-in-6 : goal.returns-in-6
returns-in-6 c = search laws

pub returns-in_default : goal.returns-in_default
returns-in_default c = search (rules, by_none)
