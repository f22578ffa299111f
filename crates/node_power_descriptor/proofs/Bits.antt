-- The fields that share a byte stand where document 01 puts them, and so do those that shifts bring there. Assumes nothing.
use Prim.Native.Nat.{ℕ, ◌+◌, ◌*◌, ◌%◌, ◌<◌}
use native.Mathlib.Omega.{arith}
use mathlib.Core.Path.{◌≡◌}
use lib.Bits.{bit_or, or_shifted_r}
use Rattle.power_names.specs.Names.{mode_bits, source_bits, level_bits}
use Rattle.node_power_descriptor.specs.PowerDescriptor.{power_byte0, power_byte1}
use Rattle.node_power_descriptor.specs.Bits.{PowerBitsStand}
use Rattle.node_power_descriptor.specs.declared.descriptor.PowerDescriptorConfig.{PowerDescriptorConfig}

pub power_bits : PowerBitsStand
unfolding power_byte0 power_byte1
power_bits p = record { mode = omega arith; sources = omega arith; source = omega arith; level = omega arith }

-- four bits, and a number that is shifted behind them in a byte: what it has above four bits is cut
halves : (low high : ℕ) → low < 16 → bit_or low (high * 16 % 256) ≡ low + 16 * (high % 16)
halves low high h =
    let shifted : high * 16 % 256 ≡ high % 16 * 16 = omega arith in
    rw shifted (omega (arith, or_shifted_r (high % 16) 4 low h))

pub byte0_joined :
    (p : PowerDescriptorConfig) (m : ℕ)
    → m ≡ mode_bits p.current_power_mode
    → bit_or m (p.available_power_sources * 16 % 256) ≡ power_byte0 p
unfolding power_byte0
byte0_joined p m e = omega (arith, halves m p.available_power_sources (omega arith))

pub byte1_joined :
    (p : PowerDescriptorConfig) (s l : ℕ)
    → s ≡ source_bits p.current_power_source
    → l ≡ level_bits p.current_power_source_level
    → bit_or s (l * 16 % 256) ≡ power_byte1 p
unfolding power_byte1
byte1_joined p s l e f = omega (arith, halves s l (omega arith))
