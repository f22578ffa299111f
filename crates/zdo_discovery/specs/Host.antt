-- Who answers, and what is asked.
use Rattle.std.specs.Prelude.{ℕ, Bool, List, length}
use Rattle.zigbee_types.specs.declared.IeeeAddress.{IeeeAddress}
use Rattle.zigbee_types.specs.declared.ShortAddress.{ShortAddress}
use Rattle.simple_descriptor.specs.SimpleDescriptor.{Endpoint}
use Rattle.zdo_device.specs.Tables.{Pools, used, good_device, resolved_in}
use Rattle.zdo_device.specs.declared.descriptor.DeviceDescriptorConfig.{DeviceDescriptorConfig}

-- our device, with its two addresses and its pools
pub record Host : Type 0 where
  pub device : DeviceDescriptorConfig
  pub ieee_addr : IeeeAddress
  pub nwk_addr : ShortAddress
  pub pools : Pools

-- the host that has these
abbrev pub host_with : DeviceDescriptorConfig → IeeeAddress → ShortAddress → Pools → Host
host_with device long short pools = record { device = device; ieee_addr = long; nwk_addr = short; pools = pools }

-- a request's cluster and payload, and how many bytes the reply's buffer has
pub record Asked : Type 0 where
  pub cluster : ℕ
  pub payload : List ℕ
  pub room : ℕ

-- a request, with the buffer that is lent for the reply
unfoldable pub asking : ℕ → List ℕ → List ℕ → Asked
asking cluster payload buffer = record { cluster = cluster; payload = payload; room = length buffer }

-- are the device's tables good? If not, refusal 1 is given
unfoldable pub good_host : Host → Bool
good_host h = good_device h.pools h.device

-- our endpoints, with their clusters
unfoldable pub resolved : Host → List Endpoint
resolved h = resolved_in h.pools (used h.device)
