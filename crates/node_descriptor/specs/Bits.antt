-- Where the fields that share a byte stand in it, as a statement. A term of it stands in proofs/.
use Rattle.std.specs.Prelude.{◌/◌, ◌%◌, ◌≡◌}
use Rattle.zigbee_types.specs.Bytes.{bit_at}
use Rattle.node_descriptor.specs.NodeDescriptor.{type_bits, node_byte0, node_byte1}
use Rattle.node_descriptor.specs.declared.descriptor.NodeDescriptorConfig.{NodeDescriptorConfig}

-- document 01, module 2: type in bits 0 to 2 of byte 0, complex bit 3, user bit 4, nothing above; band in bits 3 to 7 of
-- byte 1, nothing below
pub record NodeBits (n : NodeDescriptorConfig) : Type 0 where
  pub type : node_byte0 n % 8 ≡ type_bits n.logical_type
  pub complex : bit_at 3 (node_byte0 n) ≡ n.complex_descriptor_available
  pub user : bit_at 4 (node_byte0 n) ≡ n.user_descriptor_available
  pub above : node_byte0 n / 32 ≡ 0
  pub below : node_byte1 n % 8 ≡ 0
  pub band : node_byte1 n / 8 ≡ n.frequency_band % 32

-- of every node configuration
abbrev pub NodeBitsStand : Type 0
NodeBitsStand = (n : NodeDescriptorConfig) → NodeBits n
