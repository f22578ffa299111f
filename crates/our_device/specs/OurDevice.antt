-- The device of document 01's counter-cases, and of the program `answer`.
use Rattle.std.specs.Prelude.{false, [], ◌∷◌, replicate}
use Rattle.zigbee_types.specs.Addresses.{ieee_of, short_of}
use Rattle.node_descriptor.specs.declared.descriptor.NodeDescriptorConfig.{NodeDescriptorConfig}
use Rattle.node_power_descriptor.specs.declared.descriptor.PowerDescriptorConfig.{PowerDescriptorConfig}
use Rattle.node_descriptor.specs.declared.LogicalType.TheVariants.{EndDevice}
use Rattle.power_names.specs.declared.CurrentPowerMode.TheVariants.{Stimulated}
use Rattle.power_names.specs.declared.PowerSource.TheVariants.{DisposableBattery}
use Rattle.power_names.specs.declared.CurrentPowerSourceLevel.TheVariants.{TwoThirds}
use Rattle.zdo_device.specs.Tables.{Pools}
use Rattle.zdo_device.specs.declared.descriptor.EndpointDescriptor.{EndpointDescriptor}
use Rattle.zdo_device.specs.declared.descriptor.DeviceDescriptorConfig.{DeviceDescriptorConfig}
use Rattle.zdo_discovery.specs.Host.{Host, host_with}

-- end device, band 8, MAC 0x80, maker 0xABCD, buffer 0x52, sizes 0x0080, server mask 0x2C00, capabilities 0
abbrev pub our_node : NodeDescriptorConfig
our_node =
    record {
      logical_type = EndDevice;
      complex_descriptor_available = false;
      user_descriptor_available = false;
      frequency_band = 8;
      mac_capability_flags = 0x80;
      manufacturer_code = 0xABCD;
      maximum_buffer_size = 0x52;
      maximum_incoming_transfer_size = 0x0080;
      server_mask = 0x2C00;
      maximum_outgoing_transfer_size = 0x0080;
      descriptor_capability_field = 0;
    }

-- power bytes 42 84
abbrev pub our_power : PowerDescriptorConfig
our_power =
    record {
      current_power_mode = Stimulated;
      available_power_sources = 4;
      current_power_source = DisposableBattery;
      current_power_source_level = TwoThirds;
    }

-- endpoint 1: profile 0x0104, device 0x0302, version 0x11, two inputs and one output
abbrev pub endpoint1 : EndpointDescriptor
endpoint1 =
    record {
      endpoint = 1;
      device_version = 0x11;
      profile_id = 0x0104;
      device_id = 0x0302;
      input_start = 0;
      input_count = 2;
      output_start = 0;
      output_count = 1;
    }

-- endpoint 2: the same profile, device 0x0402, version 0, two inputs and no outputs
abbrev pub endpoint2 : EndpointDescriptor
endpoint2 =
    record {
      endpoint = 2;
      device_version = 0;
      profile_id = 0x0104;
      device_id = 0x0402;
      input_start = 2;
      input_count = 2;
      output_start = 1;
      output_count = 0;
    }

-- inputs 0x0000 and 0x0402 of endpoint 1, 0x0000 and 0x0500 of endpoint 2; output 0x0019 of endpoint 1
abbrev pub our_pools : Pools
our_pools = record { inputs = 0x0000 ∷ 0x0402 ∷ 0x0000 ∷ 0x0500 ∷ []; outputs = 0x0019 ∷ [] }

-- endpoints 1 and 2; what stands behind them does not matter
abbrev pub our_device : DeviceDescriptorConfig
our_device = record { node = our_node; power = our_power; endpoints = endpoint1 ∷ endpoint2 ∷ replicate 30 endpoint2; endpoint_count = 2 }

-- our device, with its addresses: IEEE 0x0102030405060708, short 0x1234
abbrev pub ours : Host
ours = host_with our_device (ieee_of 0x0102_0304_0506_0708) (short_of 0x1234) our_pools
