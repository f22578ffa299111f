-- `SimpleDescriptorFields::try_read` meets its contract: it says what the reader of the lists said. Assumes nothing.
use borrow.Author.Rules.{rules}
use Rattle.zigbee_types.proofs.Passed.{passed_mapped}
use Rattle.simple_descriptor.specs.SimpleDescriptor.{simple_descriptor_in}
use Rattle.simple_descriptor.proofs.Read.{front_there, simple_read_lem}
use Rattle.simple_descriptor.proofs.SimpleDescriptorFields.try_read.Goals as goal

ruleset laws = (rules, front_there, simple_read_lem, passed_mapped)

pub read-requires : goal.read-requires
read-requires c = search laws

pub returns-in_err-lists : goal.returns-in_err-lists
unfolding simple_descriptor_in
returns-in_err-lists c = search laws

pub returns : goal.returns
returns c = search laws
