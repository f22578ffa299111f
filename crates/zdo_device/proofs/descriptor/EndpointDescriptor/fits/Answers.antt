-- `EndpointDescriptor::fits` meets its contract: each test is one of the two. Assumes nothing.
use Rattle.zdo_device.specs.Tables.{record_fits}
use Rattle.zdo_device.proofs.descriptor.EndpointDescriptor.fits.Goals as goal

pub returns : goal.returns
unfolding record_fits
returns c = rw (← c.end_of.ensures.0, ← c.end_of-2.ensures.0)
