-- `EndpointDescriptor::clusters` meets its contract: the part of the pool that the side names. Assumes nothing.
use borrow.Author.Rules.{rules}
use Rattle.zdo_device.proofs.Clusters.{input_part, output_part}
use Rattle.zdo_device.proofs.descriptor.EndpointDescriptor.clusters.Goals as goal

ruleset laws = (rules, input_part, output_part)

pub returns-in-Input : goal.returns-in-Input
returns-in-Input c = search laws

pub returns-in-Output : goal.returns-in-Output
returns-in-Output c = search laws
