-- The host that a value of the code is.
use Rattle.zdo_device.specs.Checked.{pools_of}
use Rattle.zdo_discovery.specs.Host.{Host, host_with}
use Rattle.zdo_discovery.specs.declared.host.Host.{Host as Checked}

-- its device, its two addresses, and its pools
abbrev pub host_of : Checked → Host
host_of h = host_with h.tables.device.now h.ieee_addr h.nwk_addr (pools_of h.tables.pools)
