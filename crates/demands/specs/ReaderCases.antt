-- Cases of the readers, and of numbers that have names. What the definitions say stands on one side, and
-- literals on the other (`Case`); those of flags are the Rust's.
use Rattle.std.specs.Prelude.{ℕ, List, [], ◌∷◌, ◌++◌, map, take, drop, replicate, Option, Some, None}
use Rattle.zigbee_types.specs.Refusals.{refusal_number}
use Rattle.zigbee_types.specs.declared.Refusal.TheVariants.{BadTables, UnknownCluster, Malformed, TooManyClusters, ShortBuffer}
use Rattle.zigbee_types.specs.Bytes.{bit, bit_at}
use Rattle.zigbee_types.specs.Outcome.{Outcome, answer, refusal, mapped}
use Rattle.zigbee_types.specs.Layout.{laid}
use Rattle.zigbee_types.specs.Addresses.{group_of}
use Rattle.zigbee_types.specs.declared.Places.{Places}
use Rattle.node_descriptor.specs.NodeDescriptor.{type_bits, logical_type_of, default_node, node_descriptor_of, node_descriptor_in, node_fields}
use Rattle.power_names.specs.Names.{source_bitmap, mode_bits, current_power_mode_of, source_bits, power_source_of, level_bits, current_power_source_level_of}
use Rattle.node_power_descriptor.specs.PowerDescriptor.{power_descriptor_of, power_descriptor_in, power_fields, supports}
use Rattle.node_flags.specs.Flags.{frequency_band_flag_of, mac_capability_flag_of, server_mask_flag_of, descriptor_capability_flag_of}
use Rattle.simple_descriptor.specs.SimpleDescriptor.{simple_descriptor_in}
use Rattle.node_descriptor.specs.declared.descriptor.NodeDescriptorConfig.{NodeDescriptorConfig}
use Rattle.node_descriptor.specs.declared.LogicalType.TheVariants as type
use Rattle.node_flags.specs.declared.FrequencyBandFlag.TheVariants.{Low, Mid, High, EuropeanFSK}
use Rattle.node_flags.specs.declared.MacCapabilityFlag.TheVariants.{AlternatePanCoordinator, DeviceType, PowerSource, ReceiverOnWhenIdle, SecurityCapability, AllocateAddress}
use Rattle.node_flags.specs.declared.ServerMaskFlag.TheVariants.{PrimaryTrustCenter, BackupTrustCenter, PrimaryBindingTableCache, BackupBindingTableCache, PrimaryDiscoveryCache, BackupDiscoveryCache, NetworkManager}
use Rattle.node_flags.specs.declared.DescriptorCapabilityFlag.TheVariants.{ExtendedActiveEndpontListAvailable, ExtendedSimpleDescriptorListAvailable}
use Rattle.power_names.specs.declared.CurrentPowerMode.TheVariants as mode
use Rattle.power_names.specs.declared.PowerSource.{PowerSource as Source}
use Rattle.power_names.specs.declared.PowerSource.TheVariants as source
use Rattle.power_names.specs.declared.CurrentPowerSourceLevel.TheVariants as level
use Rattle.aps_binding.specs.Entry.{group_binding, routes}
use Rattle.zdo_replies.specs.Codes.{bind_code, discovery_code, leave_status}
use Rattle.zdo_replies.specs.declared.descriptor.BindStatus.TheVariants as bind
use Rattle.zdo_replies.specs.declared.descriptor.DiscoveryError.TheVariants as error
use Rattle.zdo_replies.specs.declared.management.NlmeLeaveStatus.TheVariants as leaving
use Rattle.zdo_readers.specs.Readers.{node_reply_in, power_reply_in, node_desc_rsp_in, addr_reply_in, status_reply_in}
use Rattle.zdo_list_readers.specs.ListReaders.{list_reply_in, match_reply_in, simple_reply_in}
use Rattle.zdo_list_readers.specs.declared.readers.MatchReply.{MatchReply}
use Rattle.zdo_list_readers.specs.declared.readers.MatchReply.TheVariants.{Matched, Failed}
use Rattle.demands.specs.Cases.{Case, type_shown, power_shown, node_of, mode_shown, source_shown, level_shown}
use Rattle.node_descriptor.specs.declared.NodeDescriptor.{NodeDescriptor}
use Rattle.node_power_descriptor.specs.declared.NodePowerDescriptor.{NodePowerDescriptor}
use Rattle.simple_descriptor.specs.declared.SimpleDescriptorFields.{SimpleDescriptorFields}
use Rattle.zdo_readers.specs.declared.readers.Associated.{Associated}

-- K1's node reply
abbrev pub node_reply : List ℕ
node_reply = 0x07 ∷ 0x00 ∷ 0x34 ∷ 0x12 ∷ 0x02 ∷ 0x40 ∷ 0x80 ∷ 0xCD ∷ 0xAB ∷ 0x52 ∷ 0x80 ∷ 0x00 ∷ 0x00 ∷ 0x2C ∷ 0x80 ∷ 0x00 ∷ 0x00 ∷ []

-- the manufacturer of a node descriptor, where there is one
abbrev pub maker : Option NodeDescriptor → List ℕ
maker (Some d) = d.manufacturer_code ∷ []
maker None = []

-- the bytes of a power descriptor, where there is one
abbrev pub power_bytes : Option NodePowerDescriptor → List ℕ
power_bytes (Some d) = d.«byte0» ∷ d.«byte1» ∷ []
power_bytes None = []

-- a server mask, where there is one
abbrev pub some_mask : Option ℕ → List ℕ
some_mask (Some m) = m ∷ []
some_mask None = []

-- a node reply and 16 bytes of it; one of another status; its mask at 14 bytes, at 16 and at 13, and with another status; a power
-- reply, and one of another status
unfoldable pub ReadDescriptors : Case
ReadDescriptors =
    record {
      says =
          mapped (λ r. r.header.seq ∷ r.header.status ∷ r.header.nwk_addr_of_interest.0 ∷ maker r.descriptor) (node_reply_in node_reply)
          ∷ mapped (λ r. maker r.descriptor) (node_reply_in (take 16 node_reply))
          ∷ mapped (λ r. maker r.descriptor) (node_reply_in (0x07 ∷ 0x81 ∷ 0x34 ∷ 0x12 ∷ []))
          ∷ mapped (λ r. some_mask r.server_mask) (node_desc_rsp_in (take 14 node_reply))
          ∷ mapped (λ r. some_mask r.server_mask) (node_desc_rsp_in (take 16 node_reply))
          ∷ mapped (λ r. some_mask r.server_mask) (node_desc_rsp_in (take 13 node_reply))
          ∷ mapped (λ r. some_mask r.server_mask) (node_desc_rsp_in (0x07 ∷ 0x81 ∷ drop 2 node_reply))
          ∷ mapped (λ r. power_bytes r.descriptor) (power_reply_in (0x07 ∷ 0x00 ∷ 0x34 ∷ 0x12 ∷ 0x42 ∷ 0x84 ∷ []))
          ∷ mapped (λ r. power_bytes r.descriptor) (power_reply_in (0x07 ∷ 0x80 ∷ 0x34 ∷ 0x12 ∷ 0x22 ∷ 0x84 ∷ []))
          ∷ [];
      expected =
          answer (7 ∷ 0 ∷ 0x1234 ∷ 0xABCD ∷ [])
          ∷ refusal 3
          ∷ answer []
          ∷ answer (0x2C00 ∷ [])
          ∷ answer (0x2C00 ∷ [])
          ∷ answer []
          ∷ answer []
          ∷ answer (0x42 ∷ 0x84 ∷ [])
          ∷ answer []
          ∷ [];
    }

-- where a list stands, and how many entries it has
abbrev pub places : Places → List ℕ
places p = p.start ∷ p.count ∷ []

-- of a match reply seq, address and list; of a failed one seq and status
abbrev pub match_numbers : MatchReply → List ℕ
match_numbers (Matched r) = r.header.seq ∷ r.header.nwk_addr_of_interest.0 ∷ places r.list
match_numbers (Failed r) = r.seq ∷ r.status ∷ []

-- an active reply, whole, one short, and of another status; a match reply, and one of another status, of three bytes and of two; a bind reply
unfoldable pub ReadLists : Case
ReadLists =
    record {
      says =
          mapped (λ r. places r.list) (list_reply_in (0x07 ∷ 0x00 ∷ 0x34 ∷ 0x12 ∷ 0x02 ∷ 0x01 ∷ 0x02 ∷ []))
          ∷ mapped (λ r. places r.list) (list_reply_in (0x07 ∷ 0x00 ∷ 0x34 ∷ 0x12 ∷ 0x02 ∷ 0x01 ∷ []))
          ∷ mapped (λ r. r.header.status ∷ r.header.nwk_addr_of_interest.0 ∷ places r.list) (list_reply_in (0x07 ∷ 0x83 ∷ 0x34 ∷ 0x12 ∷ 0x02 ∷ 0x01 ∷ 0x02 ∷ []))
          ∷ mapped match_numbers (match_reply_in (0x09 ∷ 0x00 ∷ 0x34 ∷ 0x12 ∷ 0x01 ∷ 0x01 ∷ []))
          ∷ mapped match_numbers (match_reply_in (0x09 ∷ 0x80 ∷ 0x05 ∷ []))
          ∷ mapped match_numbers (match_reply_in (0x09 ∷ 0x80 ∷ []))
          ∷ mapped (λ r. r.seq ∷ r.status ∷ []) (status_reply_in (0x0A ∷ 0x8C ∷ []))
          ∷ [];
      expected =
          answer (5 ∷ 2 ∷ [])
          ∷ refusal 3
          ∷ answer (0x83 ∷ 0x1234 ∷ 5 ∷ 2 ∷ [])
          ∷ answer (9 ∷ 0x1234 ∷ 5 ∷ 1 ∷ [])
          ∷ answer (9 ∷ 0x80 ∷ [])
          ∷ refusal 3
          ∷ answer (0x0A ∷ 0x8C ∷ [])
          ∷ [];
    }

-- the fields of a simple descriptor, where there is one
abbrev pub simple_numbers : Option SimpleDescriptorFields → List ℕ
simple_numbers None = []
simple_numbers (Some d) =
    d.endpoint ∷ d.profile_id ∷ d.device_id ∷ d.device_version ∷ places d.input_clusters ++ places d.output_clusters

-- a simple descriptor of one input, 0x0402, with version 0x11
abbrev pub simple_bytes : List ℕ
simple_bytes = 0x01 ∷ 0x04 ∷ 0x01 ∷ 0x02 ∷ 0x03 ∷ 0x11 ∷ 0x01 ∷ 0x02 ∷ 0x04 ∷ 0x00 ∷ []

-- alone; with an output of two bytes and of one; in a reply of another status, with a byte to spare; with a length one short;
-- with a length one past the reply; with length 0
unfoldable pub ReadSimple : Case
ReadSimple =
    record {
      says =
          mapped (λ d. simple_numbers (Some d)) (simple_descriptor_in simple_bytes)
          ∷ mapped (λ d. simple_numbers (Some d)) (simple_descriptor_in (0x01 ∷ 0x04 ∷ 0x01 ∷ 0x02 ∷ 0x03 ∷ 0x01 ∷ 0x00 ∷ 0x01 ∷ 0x19 ∷ 0x00 ∷ []))
          ∷ mapped (λ d. simple_numbers (Some d)) (simple_descriptor_in (0x01 ∷ 0x04 ∷ 0x01 ∷ 0x02 ∷ 0x03 ∷ 0x01 ∷ 0x00 ∷ 0x01 ∷ 0x19 ∷ []))
          ∷ mapped (λ r. simple_numbers r.descriptor) (simple_reply_in (0x07 ∷ 0x83 ∷ 0x34 ∷ 0x12 ∷ 0x0B ∷ simple_bytes ++ 0x00 ∷ []))
          ∷ mapped (λ r. simple_numbers r.descriptor) (simple_reply_in (0x07 ∷ 0x00 ∷ 0x34 ∷ 0x12 ∷ 0x09 ∷ simple_bytes))
          ∷ mapped (λ r. simple_numbers r.descriptor) (simple_reply_in (0x07 ∷ 0x00 ∷ 0x34 ∷ 0x12 ∷ 0x0B ∷ simple_bytes))
          ∷ mapped (λ r. simple_numbers r.descriptor) (simple_reply_in (0x07 ∷ 0x83 ∷ 0x34 ∷ 0x12 ∷ 0x00 ∷ []))
          ∷ [];
      expected =
          answer (1 ∷ 0x0104 ∷ 0x0302 ∷ 1 ∷ 7 ∷ 1 ∷ 10 ∷ 0 ∷ [])
          ∷ answer (1 ∷ 0x0104 ∷ 0x0302 ∷ 1 ∷ 7 ∷ 0 ∷ 8 ∷ 1 ∷ [])
          ∷ refusal 3
          ∷ answer (1 ∷ 0x0104 ∷ 0x0302 ∷ 1 ∷ 12 ∷ 1 ∷ 15 ∷ 0 ∷ [])
          ∷ refusal 3
          ∷ refusal 3
          ∷ answer []
          ∷ [];
    }

-- what an extended address reply adds, where it does
abbrev pub extension : Option Associated → List ℕ
extension (Some e) = e.num_assoc_dev ∷ e.start_index ∷ places e.devices
extension None = []

-- what is read of an address reply with so much behind its twelve bytes
abbrev pub address : ℕ → List ℕ → Outcome (List ℕ)
address status behind =
    mapped (λ r. r.seq ∷ r.status ∷ r.ieee_addr.0 ∷ r.nwk_addr.0 ∷ extension r.associated)
    (addr_reply_in (0x07 ∷ status ∷ 0x08 ∷ 0x07 ∷ 0x06 ∷ 0x05 ∷ 0x04 ∷ 0x03 ∷ 0x02 ∷ 0x01 ∷ 0x34 ∷ 0x12 ∷ behind))

-- 12 bytes, 13, 14, 14 of another status, 18 and 19; 16 that tell five devices, and none
unfoldable pub ReadAddresses : Case
ReadAddresses =
    record {
      says =
          address 0x00 []
          ∷ address 0x00 (0x00 ∷ [])
          ∷ address 0x00 (0x00 ∷ 0x00 ∷ [])
          ∷ address 0x80 (0x00 ∷ 0x00 ∷ [])
          ∷ address 0x00 (0x03 ∷ 0x01 ∷ 0x78 ∷ 0x56 ∷ 0x9A ∷ 0x57 ∷ [])
          ∷ address 0x00 (0x03 ∷ 0x01 ∷ 0x78 ∷ 0x56 ∷ 0x9A ∷ 0x57 ∷ 0x00 ∷ [])
          ∷ address 0x00 (0x05 ∷ 0x00 ∷ 0x78 ∷ 0x56 ∷ [])
          ∷ address 0x00 (0x00 ∷ 0x00 ∷ 0x78 ∷ 0x56 ∷ [])
          ∷ [];
      expected =
          answer (7 ∷ 0x00 ∷ 0x0102_0304_0506_0708 ∷ 0x1234 ∷ [])
          ∷ answer (7 ∷ 0x00 ∷ 0x0102_0304_0506_0708 ∷ 0x1234 ∷ [])
          ∷ answer (7 ∷ 0x00 ∷ 0x0102_0304_0506_0708 ∷ 0x1234 ∷ 0 ∷ 0 ∷ 14 ∷ 0 ∷ [])
          ∷ answer (7 ∷ 0x80 ∷ 0x0102_0304_0506_0708 ∷ 0x1234 ∷ [])
          ∷ answer (7 ∷ 0x00 ∷ 0x0102_0304_0506_0708 ∷ 0x1234 ∷ 3 ∷ 1 ∷ 14 ∷ 2 ∷ [])
          ∷ answer (7 ∷ 0x00 ∷ 0x0102_0304_0506_0708 ∷ 0x1234 ∷ 3 ∷ 1 ∷ 14 ∷ 2 ∷ [])
          ∷ answer (7 ∷ 0x00 ∷ 0x0102_0304_0506_0708 ∷ 0x1234 ∷ 5 ∷ 0 ∷ 14 ∷ 1 ∷ [])
          ∷ answer (7 ∷ 0x00 ∷ 0x0102_0304_0506_0708 ∷ 0x1234 ∷ 0 ∷ 0 ∷ 14 ∷ 1 ∷ [])
          ∷ [];
    }

-- the default whole: a router, and zero elsewhere
unfoldable pub DefaultNode : Case
DefaultNode =
    record {
      says = answer (laid (node_descriptor_of default_node)) ∷ [];
      expected = answer (0x01 ∷ 0x00 ∷ 0x00 ∷ 0x00 ∷ 0x00 ∷ 0x00 ∷ 0x00 ∷ 0x00 ∷ 0x00 ∷ 0x00 ∷ 0x00 ∷ 0x00 ∷ 0x00 ∷ []) ∷ [];
    }

-- what a node descriptor says
abbrev pub node_shown : NodeDescriptorConfig → List ℕ
node_shown n =
    type_shown n.logical_type
    ∷ bit n.complex_descriptor_available
    ∷ bit n.user_descriptor_available
    ∷ n.frequency_band
    ∷ n.mac_capability_flags
    ∷ n.manufacturer_code
    ∷ n.maximum_buffer_size
    ∷ n.maximum_incoming_transfer_size
    ∷ n.server_mask
    ∷ n.maximum_outgoing_transfer_size
    ∷ n.descriptor_capability_field
    ∷ []

-- a reserved type of 9 with a band of 0x28, written; it reads as Router, its band as 8; a reserved type of 5 reads as reserved.
-- A node descriptor whose bytes all differ, read; one whose unused bits are set. Reserved power numbers, written with a union of
-- two sources; a reserved mode and level, read.
unfoldable pub ReservedNumbers : Case
ReservedNumbers =
    record {
      says =
          answer (laid (node_descriptor_of (node_of (type.Reserved 9))))
          ∷ mapped (λ d. node_shown (node_fields d)) (node_descriptor_in (laid (node_descriptor_of (node_of (type.Reserved 9)))))
          ∷ mapped (λ d. node_shown (node_fields d)) (node_descriptor_in (laid (node_descriptor_of (node_of (type.Reserved 5)))))
          ∷ mapped (λ d. node_shown (node_fields d)) (node_descriptor_in (0x12 ∷ 0xF8 ∷ 0x81 ∷ 0x02 ∷ 0x03 ∷ 0x04 ∷ 0x05 ∷ 0x06 ∷ 0x07 ∷ 0x08 ∷ 0x09 ∷ 0x0A ∷ 0x0B ∷ []))
          ∷ mapped (λ d. node_shown (node_fields d)) (node_descriptor_in (0xFF ∷ 0x07 ∷ replicate 11 0x00))
          ∷ answer
          (laid
          (power_descriptor_of
          (record {
            current_power_mode = mode.Reserved 0x1F;
            available_power_sources = source_bitmap (0x11 ∷ 0x04 ∷ []);
            current_power_source = source.Reserved 0x28;
            current_power_source_level = level.Reserved 0x33;
          })))
          ∷ mapped (λ d. power_shown (power_fields d)) (power_descriptor_in (0x5F ∷ 0x34 ∷ []))
          ∷ [];
      expected =
          answer (0x09 ∷ 0x40 ∷ 0x80 ∷ 0xCD ∷ 0xAB ∷ 0x52 ∷ 0x80 ∷ 0x00 ∷ 0x00 ∷ 0x2C ∷ 0x81 ∷ 0x00 ∷ 0x00 ∷ [])
          ∷ answer (1 ∷ 1 ∷ 0 ∷ 8 ∷ 0x80 ∷ 0xABCD ∷ 0x52 ∷ 0x0080 ∷ 0x2C00 ∷ 0x0081 ∷ 0 ∷ [])
          ∷ answer (0x105 ∷ 1 ∷ 0 ∷ 8 ∷ 0x80 ∷ 0xABCD ∷ 0x52 ∷ 0x0080 ∷ 0x2C00 ∷ 0x0081 ∷ 0 ∷ [])
          ∷ answer (2 ∷ 0 ∷ 1 ∷ 31 ∷ 0x81 ∷ 0x0302 ∷ 0x04 ∷ 0x0605 ∷ 0x0807 ∷ 0x0A09 ∷ 0x0B ∷ [])
          ∷ answer (0x107 ∷ 1 ∷ 1 ∷ 0 ∷ 0 ∷ 0 ∷ 0 ∷ 0 ∷ 0 ∷ 0 ∷ 0 ∷ [])
          ∷ answer (0x5F ∷ 0x38 ∷ [])
          ∷ answer (0x10F ∷ 5 ∷ 4 ∷ 0x103 ∷ [])
          ∷ [];
    }

-- the numbers of types, modes, sources and levels, the last of each reserved; and what numbers stand for, the last of each
-- without a name
unfoldable pub NamedNumbers : Case
NamedNumbers =
    record {
      says =
          answer (map type_bits (type.Coordinator ∷ type.Router ∷ type.EndDevice ∷ type.Reserved 0xFB ∷ []))
          ∷ answer (map mode_bits (mode.Synchronized ∷ mode.Periodically ∷ mode.Stimulated ∷ mode.Reserved 0xF3 ∷ []))
          ∷ answer (map source_bits (source.ConstantMainPower ∷ source.RechargeableBattery ∷ source.DisposableBattery ∷ source.Reserved 0xF8 ∷ []))
          ∷ answer (map level_bits (level.Critical ∷ level.OneThird ∷ level.TwoThirds ∷ level.Full ∷ level.Reserved 0xF1 ∷ []))
          ∷ answer (map (λ n. type_shown (logical_type_of n)) (0 ∷ 1 ∷ 2 ∷ 3 ∷ []))
          ∷ answer (map (λ n. mode_shown (current_power_mode_of n)) (0 ∷ 1 ∷ 2 ∷ 3 ∷ []))
          ∷ answer (map (λ n. source_shown (power_source_of n)) (1 ∷ 2 ∷ 4 ∷ 8 ∷ []))
          ∷ answer (map (λ n. level_shown (current_power_source_level_of n)) (0 ∷ 4 ∷ 8 ∷ 12 ∷ 1 ∷ []))
          ∷ [];
      expected =
          answer (0 ∷ 1 ∷ 2 ∷ 3 ∷ [])
          ∷ answer (0 ∷ 1 ∷ 2 ∷ 3 ∷ [])
          ∷ answer (1 ∷ 2 ∷ 4 ∷ 8 ∷ [])
          ∷ answer (0 ∷ 4 ∷ 8 ∷ 12 ∷ 1 ∷ [])
          ∷ answer (0 ∷ 1 ∷ 2 ∷ 0x103 ∷ [])
          ∷ answer (0 ∷ 1 ∷ 2 ∷ 0x103 ∷ [])
          ∷ answer (1 ∷ 2 ∷ 4 ∷ 0x108 ∷ [])
          ∷ answer (0 ∷ 4 ∷ 8 ∷ 12 ∷ 0x101 ∷ [])
          ∷ [];
    }

-- is a source available by byte 0 of a power descriptor?
abbrev pub available : Source → ℕ → ℕ
available s n = bit (supports (record { «byte0» = n; «byte1» = 0 }) s)

-- bitmaps of one number each, of none and of three; each bit of the available sources against each source; the current sources
-- 1 and 2, read, and 8, refused, each available; one byte
unfoldable pub SourceSets : Case
SourceSets =
    record {
      says =
          answer (map source_bitmap ((0x01 ∷ []) ∷ (0x02 ∷ []) ∷ (0x04 ∷ []) ∷ (0x08 ∷ []) ∷ (0xF0 ∷ []) ∷ [] ∷ (0x11 ∷ 0x04 ∷ 0x05 ∷ []) ∷ []))
          ∷ answer (map (available source.ConstantMainPower) (0x10 ∷ 0x20 ∷ 0x40 ∷ 0x80 ∷ 0x0F ∷ []))
          ∷ answer (map (available source.RechargeableBattery) (0x10 ∷ 0x20 ∷ 0x40 ∷ 0x80 ∷ 0x0F ∷ []))
          ∷ answer (map (available source.DisposableBattery) (0x10 ∷ 0x20 ∷ 0x40 ∷ 0x80 ∷ 0x0F ∷ []))
          ∷ answer (map (available (source.Reserved 0x08)) (0x10 ∷ 0x20 ∷ 0x40 ∷ 0x80 ∷ 0x0F ∷ []))
          ∷ answer (map (available (source.Reserved 0x0C)) (0x10 ∷ 0x20 ∷ 0x40 ∷ 0x80 ∷ 0x0F ∷ []))
          ∷ mapped (λ d. power_shown (power_fields d)) (power_descriptor_in (0x10 ∷ 0x01 ∷ []))
          ∷ mapped (λ d. power_shown (power_fields d)) (power_descriptor_in (0x20 ∷ 0x02 ∷ []))
          ∷ mapped (λ d. power_shown (power_fields d)) (power_descriptor_in (0x80 ∷ 0x08 ∷ []))
          ∷ mapped (λ d. power_shown (power_fields d)) (power_descriptor_in (0x10 ∷ []))
          ∷ [];
      expected =
          answer (1 ∷ 2 ∷ 4 ∷ 8 ∷ 0 ∷ 0 ∷ 5 ∷ [])
          ∷ answer (1 ∷ 0 ∷ 0 ∷ 0 ∷ 0 ∷ [])
          ∷ answer (0 ∷ 1 ∷ 0 ∷ 0 ∷ 0 ∷ [])
          ∷ answer (0 ∷ 0 ∷ 1 ∷ 0 ∷ 0 ∷ [])
          ∷ answer (0 ∷ 0 ∷ 0 ∷ 1 ∷ 0 ∷ [])
          ∷ answer (0 ∷ 0 ∷ 1 ∷ 1 ∷ 0 ∷ [])
          ∷ answer (0 ∷ 1 ∷ 1 ∷ 0 ∷ [])
          ∷ answer (0 ∷ 2 ∷ 2 ∷ 0 ∷ [])
          ∷ refusal 3
          ∷ refusal 3
          ∷ [];
    }

-- the bits of the flags, kind by kind; a bit that is set, and one that is not; what an entry routes
unfoldable pub FlagBits : Case
FlagBits =
    record {
      says =
          answer (map frequency_band_flag_of (Low ∷ Mid ∷ High ∷ EuropeanFSK ∷ []))
          ∷ answer (map mac_capability_flag_of (AlternatePanCoordinator ∷ DeviceType ∷ PowerSource ∷ ReceiverOnWhenIdle ∷ SecurityCapability ∷ AllocateAddress ∷ []))
          ∷ answer (map server_mask_flag_of (PrimaryTrustCenter ∷ BackupTrustCenter ∷ PrimaryBindingTableCache ∷ BackupBindingTableCache ∷ PrimaryDiscoveryCache ∷ BackupDiscoveryCache ∷ NetworkManager ∷ []))
          ∷ answer (map descriptor_capability_flag_of (ExtendedActiveEndpontListAvailable ∷ ExtendedSimpleDescriptorListAvailable ∷ []))
          ∷ answer (map bit (bit_at (server_mask_flag_of NetworkManager) 0x2C40 ∷ bit_at (server_mask_flag_of PrimaryTrustCenter) 0x2C40 ∷ []))
          ∷ answer (map bit (routes (group_binding 1 0x0402 (group_of 3)) 1 0x0402 ∷ routes (group_binding 1 0x0402 (group_of 3)) 2 0x0402 ∷ routes (group_binding 1 0x0402 (group_of 3)) 1 0x0403 ∷ []))
          ∷ [];
      expected =
          answer (0 ∷ 2 ∷ 3 ∷ 4 ∷ [])
          ∷ answer (0 ∷ 1 ∷ 2 ∷ 3 ∷ 6 ∷ 7 ∷ [])
          ∷ answer (0 ∷ 1 ∷ 2 ∷ 3 ∷ 4 ∷ 5 ∷ 6 ∷ [])
          ∷ answer (0 ∷ 1 ∷ [])
          ∷ answer (1 ∷ 0 ∷ [])
          ∷ answer (1 ∷ 0 ∷ 0 ∷ [])
          ∷ [];
    }

-- the statuses of a leave, of a bind and of a discovery error; the numbers of the refusals
unfoldable pub StatusCodes : Case
StatusCodes =
    record {
      says =
          answer (map leave_status (leaving.Success ∷ leaving.InvalidRequest ∷ leaving.UnknownDevice ∷ leaving.MacError ∷ leaving.NotAuthorized ∷ []))
          ∷ answer (map bind_code (bind.Success ∷ bind.InvalidEndpoint ∷ bind.TableFull ∷ bind.NoEntry ∷ bind.NotSupported ∷ []))
          ∷ answer (map discovery_code (error.InvalidRequestType ∷ error.DeviceNotFound ∷ []))
          ∷ answer (map refusal_number (BadTables ∷ UnknownCluster ∷ Malformed ∷ TooManyClusters ∷ ShortBuffer ∷ []))
          ∷ [];
      expected =
          answer (0x00 ∷ 0x80 ∷ 0x81 ∷ 0x8B ∷ 0x8D ∷ [])
          ∷ answer (0x00 ∷ 0x82 ∷ 0x8C ∷ 0x88 ∷ 0x84 ∷ [])
          ∷ answer (0x80 ∷ 0x81 ∷ [])
          ∷ answer (1 ∷ 2 ∷ 3 ∷ 4 ∷ 5 ∷ [])
          ∷ [];
    }
