-- The node power descriptor (2.3.2.4): two bytes, four fields of four bits (document 01, module 3).
use Rattle.std.specs.Prelude.{ℕ, ◌+◌, ◌*◌, ◌/◌, ◌%◌, Bool, ◌||◌, ◌&&◌, cond, List, [], ◌∷◌, eqb}
use Rattle.zigbee_types.specs.Outcome.{Outcome, answer, refusal, and_then}
use Rattle.zigbee_types.specs.Bytes.{bit_at}
use Rattle.zigbee_types.specs.Layout.{Field, byte, parsed}
use Rattle.zigbee_types.specs.Lists.{any}
use Rattle.power_names.specs.Names.{mode_bits, current_power_mode_of, source_bits, power_source_of, level_bits, current_power_source_level_of}
use Rattle.power_names.specs.declared.PowerSource.{PowerSource}
use Rattle.node_power_descriptor.specs.declared.descriptor.PowerDescriptorConfig.{PowerDescriptorConfig}
use Rattle.node_power_descriptor.specs.declared.NodePowerDescriptor.{NodePowerDescriptor}

-- ---- writing

-- byte 0: the mode low, the sources high (2.3.2.4.1, 2.3.2.4.2)
unfoldable pub power_byte0 : PowerDescriptorConfig → ℕ
power_byte0 p = mode_bits p.current_power_mode + 16 * (p.available_power_sources % 16)

-- byte 1: the current source low, its level high (2.3.2.4.3, 2.3.2.4.4)
unfoldable pub power_byte1 : PowerDescriptorConfig → ℕ
power_byte1 p = source_bits p.current_power_source + 16 * level_bits p.current_power_source_level

-- 2.3.2.4: the two bytes
unfoldable pub power_descriptor_of : PowerDescriptorConfig → List Field
power_descriptor_of p = byte (power_byte0 p) ∷ byte (power_byte1 p) ∷ []

-- ---- reading

-- two bytes
unfoldable pub power_widths : List ℕ
power_widths = 1 ∷ 1 ∷ []

-- what a descriptor that was read says, field by field
abbrev pub power_fields : NodePowerDescriptor → PowerDescriptorConfig
power_fields d =
    record {
      current_power_mode = current_power_mode_of (d.«byte0» % 16);
      available_power_sources = d.«byte0» / 16;
      current_power_source = power_source_of (d.«byte1» % 16);
      current_power_source_level = current_power_source_level_of (d.«byte1» / 16);
    }

-- do two fields of four bits have a bit in common?
unfoldable pub common : ℕ → ℕ → Bool
common a b = any (λ i. bit_at i a && bit_at i b) (0 ∷ 1 ∷ 2 ∷ 3 ∷ [])

-- is a source among those that the descriptor declares available?
unfoldable pub supports : NodePowerDescriptor → PowerSource → Bool
supports d s = common (d.«byte0» / 16) (source_bits s)

-- is a current source one that the reader takes: 1, 2 or 4, and among the available?
unfoldable pub usable : ℕ → ℕ → Bool
usable available current = (eqb current 1 || eqb current 2 || eqb current 4) && common available current

-- the descriptor at the front of bytes; refusal 3 for fewer than two, and for a current source that is not usable
unfoldable pub power_descriptor_in : List ℕ → Outcome NodePowerDescriptor
power_descriptor_in bytes =
    and_then
    (parsed power_widths (λ field. record { «byte0» = field 0; «byte1» = field 1 }) bytes)
    (λ d. cond (usable (d.«byte0» / 16) (d.«byte1» % 16)) (answer d) (refusal 3))
