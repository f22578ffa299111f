-- The device of document 01's counter-cases is made of its parts, and answers as itself. Assumes nothing.
use Prim.Native.Nat.{ℕ}
use mathlib.Core.Path.{◌≡◌}
use mathlib.Core.List.{List}
use lib.ListN.{set, replicate}
use Rattle.zigbee_types.specs.Outcome.{Outcome}
use Rattle.zigbee_types.specs.Addresses.{ieee_of, short_of}
use Rattle.node_descriptor.specs.declared.descriptor.NodeDescriptorConfig.{NodeDescriptorConfig}
use Rattle.node_power_descriptor.specs.declared.descriptor.PowerDescriptorConfig.{PowerDescriptorConfig}
use Rattle.aps_binding_table.specs.declared.binding.BindingTable.{BindingTable}
use Rattle.zdo_device.specs.declared.descriptor.EndpointDescriptor.{EndpointDescriptor}
use Rattle.zdo_device.specs.declared.descriptor.DeviceDescriptorConfig.{DeviceDescriptorConfig}
use Rattle.zdo_discovery.specs.Host.{Asked, host_with}
use Rattle.zdo_dispatcher.specs.Answers.{answered, Told, Dispatched}
use Rattle.our_device.specs.OurDevice.{our_node, our_power, endpoint1, endpoint2, our_pools, our_device, ours}

pub device_made :
    {n : NodeDescriptorConfig} {p : PowerDescriptorConfig} {a b : EndpointDescriptor}
    → b ≡ endpoint2
    → a ≡ endpoint1
    → n ≡ our_node
    → p ≡ our_power
    → record { node = n; power = p; endpoints = set (replicate 32 b) 0 a; endpoint_count = 2 } ≡ our_device
device_made second first node power = rw (second, first, node, power)

pub device_asked :
    (a : Asked) {d : DeviceDescriptorConfig} {t u : BindingTable} {before after : List ℕ} {told : Outcome Told}
    → d ≡ our_device
    → Dispatched (answered (host_with d (ieee_of 0x0102_0304_0506_0708) (short_of 0x1234) our_pools) t a) t before told u after
    → Dispatched (answered ours t a) t before told u after
device_asked a is h = rw is at h
