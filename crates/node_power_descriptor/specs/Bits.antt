-- Where the fields that share a byte stand in it, and which sources the reader takes, as statements. Terms of them stand in
-- proofs/.
use Rattle.std.specs.Prelude.{ℕ, ◌/◌, ◌%◌, ◌≡◌, false, [], ◌∷◌, map}
use Rattle.zigbee_types.specs.Bytes.{bit_at}
use Rattle.power_names.specs.Names.{mode_bits, source_bits, level_bits}
use Rattle.node_power_descriptor.specs.PowerDescriptor.{power_byte0, power_byte1, usable}
use Rattle.node_power_descriptor.specs.declared.descriptor.PowerDescriptorConfig.{PowerDescriptorConfig}

-- document 01, module 3: mode low and sources high in byte 0, source low and level high in byte 1
pub record PowerBits (p : PowerDescriptorConfig) : Type 0 where
  pub mode : power_byte0 p % 16 ≡ mode_bits p.current_power_mode
  pub sources : power_byte0 p / 16 ≡ p.available_power_sources % 16
  pub source : power_byte1 p % 16 ≡ source_bits p.current_power_source
  pub level : power_byte1 p / 16 ≡ level_bits p.current_power_source_level

-- of every power configuration
abbrev pub PowerBitsStand : Type 0
PowerBitsStand = (p : PowerDescriptorConfig) → PowerBits p

-- document 01, module 3: a current source is usable exactly if it is 1, 2 or 4 and its bit is among the available
pub record UsableSources : Type 0 where
  pub named : (available : ℕ) → map (usable available) (1 ∷ 2 ∷ 4 ∷ []) ≡ bit_at 0 available ∷ bit_at 1 available ∷ bit_at 2 available ∷ []
  pub others : (available current : ℕ) → (current ≡ 1 → ⊥) → (current ≡ 2 → ⊥) → (current ≡ 4 → ⊥) → usable available current ≡ false
