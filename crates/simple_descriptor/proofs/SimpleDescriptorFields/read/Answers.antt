-- `SimpleDescriptorFields::read` meets its contract: the four fields stand one behind the other. Assumes nothing.
use Rattle.simple_descriptor.proofs.Read.{front_read}
use Rattle.simple_descriptor.proofs.SimpleDescriptorFields.read.Goals as goal

pub returns : goal.returns
returns c = search front_read
