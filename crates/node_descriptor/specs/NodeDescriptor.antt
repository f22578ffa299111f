-- The node descriptor (2.3.2.3): thirteen bytes that say what a device is (document 01, module 2).
use Rattle.std.specs.Prelude.{ℕ, ◌+◌, ◌*◌, ◌/◌, ◌%◌, false, List, [], ◌∷◌}
use Rattle.zigbee_types.specs.Outcome.{Outcome}
use Rattle.zigbee_types.specs.Bytes.{bit, bit_at}
use Rattle.zigbee_types.specs.Layout.{Field, byte, word, parsed}
use Rattle.zigbee_types.specs.Named.{named}
use Rattle.node_descriptor.specs.declared.descriptor.NodeDescriptorConfig.{NodeDescriptorConfig}
use Rattle.node_descriptor.specs.declared.LogicalType.{LogicalType}
use Rattle.node_descriptor.specs.declared.LogicalType.TheVariants.{Coordinator, Router, EndDevice, Reserved}
use Rattle.node_descriptor.specs.declared.NodeDescriptor.{NodeDescriptor}

-- 2.3.2.3.1: the number of a logical type; a reserved type has the number that it holds
abbrev pub type_number : LogicalType → ℕ
type_number Coordinator = 0
type_number Router = 1
type_number EndDevice = 2
type_number (Reserved n) = n

-- the three bits that are written for it: a reserved type is written modulo 8 (document 01)
abbrev pub type_bits : LogicalType → ℕ
type_bits t = type_number t % 8

-- the types that have a name
abbrev pub type_names : List LogicalType
type_names = Coordinator ∷ Router ∷ EndDevice ∷ []

-- the logical type that a number stands for
unfoldable pub logical_type_of : ℕ → LogicalType
logical_type_of n = named type_number type_names Reserved n

-- the type of a device that says nothing else: a router (document 01)
abbrev pub default_type : LogicalType
default_type = Router

-- what an unfilled configuration says: that type, and zero elsewhere (document 01)
abbrev pub default_node : NodeDescriptorConfig
default_node =
    record {
      logical_type = default_type;
      complex_descriptor_available = false;
      user_descriptor_available = false;
      frequency_band = 0;
      mac_capability_flags = 0;
      manufacturer_code = 0;
      maximum_buffer_size = 0;
      maximum_incoming_transfer_size = 0;
      server_mask = 0;
      maximum_outgoing_transfer_size = 0;
      descriptor_capability_field = 0;
    }

-- ---- writing

-- byte 0: the type in bits 0 to 2, complex in bit 3, user in bit 4 (2.3.2.3.1 to 2.3.2.3.3)
unfoldable pub node_byte0 : NodeDescriptorConfig → ℕ
node_byte0 n = type_bits n.logical_type + 8 * bit n.complex_descriptor_available + 16 * bit n.user_descriptor_available

-- byte 1: the APS flags, always zero, and the band in bits 3 to 7 (2.3.2.3.4, 2.3.2.3.5)
unfoldable pub node_byte1 : NodeDescriptorConfig → ℕ
node_byte1 n = 8 * (n.frequency_band % 32)

-- 2.3.2.3: the fields in the order of transmission
unfoldable pub node_descriptor_of : NodeDescriptorConfig → List Field
node_descriptor_of n =
    byte (node_byte0 n)
    ∷ byte (node_byte1 n)
    ∷ byte n.mac_capability_flags
    ∷ word n.manufacturer_code
    ∷ byte n.maximum_buffer_size
    ∷ word n.maximum_incoming_transfer_size
    ∷ word n.server_mask
    ∷ word n.maximum_outgoing_transfer_size
    ∷ byte n.descriptor_capability_field
    ∷ []

-- ---- reading

-- thirteen bytes, in fields of these widths
unfoldable pub node_widths : List ℕ
node_widths = 1 ∷ 1 ∷ 1 ∷ 2 ∷ 1 ∷ 2 ∷ 2 ∷ 2 ∷ 1 ∷ []

-- the descriptor at the front of bytes; fewer than thirteen are refusal 3
unfoldable pub node_descriptor_in : List ℕ → Outcome NodeDescriptor
node_descriptor_in =
    parsed node_widths
    (λ field.
    record {
      «byte0» = field 0;
      «byte1» = field 1;
      mac_capability_flags = field 2;
      manufacturer_code = field 3;
      maximum_buffer_size = field 4;
      maximum_incoming_transfer_size = field 5;
      server_mask = field 6;
      maximum_outgoing_transfer_size = field 7;
      descriptor_capability_field = field 8;
    })

-- what a descriptor that was read says: each accessor of 001 gives one of these
abbrev pub node_fields : NodeDescriptor → NodeDescriptorConfig
node_fields d =
    record {
      logical_type = logical_type_of (d.«byte0» % 8);
      complex_descriptor_available = bit_at 3 d.«byte0»;
      user_descriptor_available = bit_at 4 d.«byte0»;
      frequency_band = d.«byte1» / 8;
      mac_capability_flags = d.mac_capability_flags;
      manufacturer_code = d.manufacturer_code;
      maximum_buffer_size = d.maximum_buffer_size;
      maximum_incoming_transfer_size = d.maximum_incoming_transfer_size;
      server_mask = d.server_mask;
      maximum_outgoing_transfer_size = d.maximum_outgoing_transfer_size;
      descriptor_capability_field = d.descriptor_capability_field;
    }
