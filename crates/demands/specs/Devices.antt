-- Devices like that of document 01's counter-cases, with other records and pools.
use Rattle.std.specs.Prelude.{ℕ, ◌-◌, List, ◌++◌, length, replicate}
use Rattle.zigbee_types.specs.Addresses.{ieee_of, short_of}
use Rattle.zdo_device.specs.Tables.{Pools}
use Rattle.zdo_device.specs.declared.descriptor.EndpointDescriptor.{EndpointDescriptor}
use Rattle.zdo_device.specs.declared.descriptor.DeviceDescriptorConfig.{DeviceDescriptorConfig}
use Rattle.zdo_discovery.specs.Host.{Host}
use Rattle.our_device.specs.OurDevice.{our_node, our_power, endpoint2}

-- a record of our profile: its number, then start and count of its inputs, start and count of its outputs
abbrev pub endpoint_at : ℕ → ℕ → ℕ → ℕ → ℕ → EndpointDescriptor
endpoint_at n from inputs out outputs =
    record { endpoint = n; device_version = 0; profile_id = 0x0104; device_id = 0x0302; input_start = from; input_count = inputs; output_start = out; output_count = outputs }

-- our node and power with these records, of which so many are in use; what stands behind them does not matter
abbrev pub device_of : List EndpointDescriptor → ℕ → DeviceDescriptorConfig
device_of records n = record { node = our_node; power = our_power; endpoints = records ++ replicate (32 - length records) endpoint2; endpoint_count = n }

-- a device with our addresses: IEEE 0x0102030405060708, short 0x1234
abbrev pub host_of : DeviceDescriptorConfig → Pools → Host
host_of device pools = record { device = device; ieee_addr = ieee_of 0x0102_0304_0506_0708; nwk_addr = short_of 0x1234; pools = pools }
