-- `good_sizes` meets its contract: each test is one of the three. Assumes nothing.
use mathlib.Core.Path.{refl}
use Rattle.zdo_device.specs.Tables.{good_sizes}
use Rattle.zdo_device.proofs.descriptor.good_sizes.Goals as goal

pub returns : goal.returns
unfolding good_sizes
returns c = refl
