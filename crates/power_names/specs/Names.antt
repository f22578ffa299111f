-- The names in the node power descriptor's fields (2.3.2.4), by their numbers: a reserved value has the number that it holds, and
-- all keep their low four bits (document 01, module 3).
use Rattle.std.specs.Prelude.{ℕ, ◌+◌, ◌*◌, ◌%◌, List, [], ◌∷◌}
use Rattle.zigbee_types.specs.Bytes.{bit, bit_at}
use Rattle.zigbee_types.specs.Lists.{any}
use Rattle.zigbee_types.specs.Named.{named}
use Rattle.power_names.specs.declared.CurrentPowerMode.{CurrentPowerMode}
use Rattle.power_names.specs.declared.CurrentPowerMode.TheVariants as mode
use Rattle.power_names.specs.declared.PowerSource.{PowerSource}
use Rattle.power_names.specs.declared.PowerSource.TheVariants as source
use Rattle.power_names.specs.declared.CurrentPowerSourceLevel.{CurrentPowerSourceLevel}
use Rattle.power_names.specs.declared.CurrentPowerSourceLevel.TheVariants as level

-- the number of a mode (2.3.2.4.1)
abbrev pub mode_number : CurrentPowerMode → ℕ
mode_number mode.Synchronized = 0
mode_number mode.Periodically = 1
mode_number mode.Stimulated = 2
mode_number (mode.Reserved n) = n

-- the four bits that are written for it
abbrev pub mode_bits : CurrentPowerMode → ℕ
mode_bits m = mode_number m % 16

-- the modes that have a name
abbrev pub mode_names : List CurrentPowerMode
mode_names = mode.Synchronized ∷ mode.Periodically ∷ mode.Stimulated ∷ []

-- the mode that a number stands for
unfoldable pub current_power_mode_of : ℕ → CurrentPowerMode
current_power_mode_of n = named mode_number mode_names mode.Reserved n

-- the number of a source (2.3.2.4.2, 2.3.2.4.3); that of a named one is one bit
abbrev pub source_number : PowerSource → ℕ
source_number source.ConstantMainPower = 1
source_number source.RechargeableBattery = 2
source_number source.DisposableBattery = 4
source_number (source.Reserved n) = n

-- the four bits that are written for it
abbrev pub source_bits : PowerSource → ℕ
source_bits s = source_number s % 16

-- the sources that have a name
abbrev pub source_names : List PowerSource
source_names = source.ConstantMainPower ∷ source.RechargeableBattery ∷ source.DisposableBattery ∷ []

-- the source that a number stands for
unfoldable pub power_source_of : ℕ → PowerSource
power_source_of n = named source_number source_names source.Reserved n

-- the number of a level (2.3.2.4.4)
abbrev pub level_number : CurrentPowerSourceLevel → ℕ
level_number level.Critical = 0
level_number level.OneThird = 4
level_number level.TwoThirds = 8
level_number level.Full = 12
level_number (level.Reserved n) = n

-- the four bits that are written for it
abbrev pub level_bits : CurrentPowerSourceLevel → ℕ
level_bits l = level_number l % 16

-- the levels that have a name
abbrev pub level_names : List CurrentPowerSourceLevel
level_names = level.Critical ∷ level.OneThird ∷ level.TwoThirds ∷ level.Full ∷ []

-- the level that a number stands for
unfoldable pub current_power_source_level_of : ℕ → CurrentPowerSourceLevel
current_power_source_level_of n = named level_number level_names level.Reserved n

-- the union of the low four bits of numbers: each of the four is set exactly if some number has it
unfoldable pub source_bitmap : List ℕ → ℕ
source_bitmap xs = bit (any (bit_at 0) xs) + 2 * bit (any (bit_at 1) xs) + 4 * bit (any (bit_at 2) xs) + 8 * bit (any (bit_at 3) xs)
