-- `NodePowerDescriptor::is_usable` tells whether the current source is one that the reader takes. Assumes nothing.
use borrow.Author.Rules.{rules}
use Rattle.node_power_descriptor.proofs.Usable.{usable_reserved, usable_named}
use Rattle.node_power_descriptor.proofs.NodePowerDescriptor.is_usable.Goals as goal

ruleset laws = (rules, usable_reserved, usable_named)

pub returns-in-Reserved : goal.returns-in-Reserved
returns-in-Reserved c = search laws

pub returns : goal.returns
returns c = search laws
