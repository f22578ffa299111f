-- The fields that share a byte stand where document 01 puts them. Assumes nothing.
use native.Mathlib.Omega.{arith}
use Rattle.zigbee_types.proofs.Bits.{bit_below, bit_is}
use Rattle.node_descriptor.specs.NodeDescriptor.{node_byte0, node_byte1}
use Rattle.node_descriptor.specs.Bits.{NodeBitsStand}

pub node_bits : NodeBitsStand
unfolding node_byte0 node_byte1
node_bits n =
    let c = bit_below n.complex_descriptor_available in
    let u = bit_below n.user_descriptor_available in
    record {
      type = omega arith;
      complex = bit_is 3 _ n.complex_descriptor_available (omega arith);
      user = bit_is 4 _ n.user_descriptor_available (omega arith);
      above = omega arith;
      below = omega arith;
      band = omega arith;
    }
