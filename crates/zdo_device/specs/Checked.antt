-- The two pools that are lent beside a device, as the specs say them.
use Rattle.zdo_device.specs.Tables.{Pools, pools}
use Rattle.zdo_device.specs.declared.descriptor.Pools as lent

-- the clusters of each
abbrev pub pools_of : lent.Pools → Pools
pools_of p = pools p.inputs.now p.outputs.now
