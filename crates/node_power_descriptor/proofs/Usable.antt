-- Which current sources the reader takes: those that have a name and are available. Assumes nothing.
use Prim.Native.Nat.{ℕ, ◌/◌, ◌%◌}
use native.Mathlib.Omega.{arith}
use mathlib.Core.Path.{◌≡◌, refl}
use mathlib.Core.Bool.{Bool, true, false, and-true, and-false, or-false}
use mathlib.Core.Logic.{⊎_elim}
use mathlib.Core.List.{[], ◌∷◌}
use lib.Dec.{eqb}
use borrow.Author.Tests.{ne_eqb}
use denote.Enum.Declared.{tag_of}
use types.Run.{OneOf}
use Rattle.zigbee_types.specs.Bytes.{bit_at}
use Rattle.zigbee_types.specs.Lists.{any, find, option}
use Rattle.zigbee_types.specs.Named.{named}
use Rattle.zigbee_types.proofs.Named.{named_number}
use Rattle.power_names.specs.Names.{source_number, source_names, source_bits, power_source_of}
use Rattle.power_names.specs.declared.PowerSource.{PowerSource}
use Rattle.power_names.specs.declared.PowerSource.TheVariants.{ConstantMainPower, RechargeableBattery, DisposableBattery, Reserved}
use Rattle.power_names.specs.contracts.PowerSource.{the_type}
use Rattle.node_power_descriptor.specs.PowerDescriptor.{common, supports, usable}
use Rattle.node_power_descriptor.specs.Bits.{UsableSources}
use Rattle.node_power_descriptor.specs.declared.NodePowerDescriptor.{NodePowerDescriptor}

-- has a source a name?
has_name : PowerSource → Bool
has_name ConstantMainPower = true
has_name RechargeableBattery = true
has_name DisposableBattery = true
has_name (Reserved n) = false

-- a number that stands for a reserved source is not taken
pub usable_reserved : (a n k : ℕ) (s : PowerSource) → s ≡ power_source_of n → s ≡ Reserved k → false ≡ usable a n
unfolding usable power_source_of named option find has_name
usable_reserved a n k s e r = rw (other 1 refl, other 2 refl, other 4 refl)
  where
    other : (m : ℕ) → has_name (power_source_of m) ≡ true → eqb n m ≡ false
    other m h = ne_eqb n m (λ i. let z : ◌≡◌ {A = ℕ} 0 1 = cc in omega arith)

-- one that stands for a source with a name, in the shape that a `match` leaves, is taken if the source is among the available
pub usable_named :
    (d : NodePowerDescriptor) (s : PowerSource) (b : Bool)
    → s ≡ power_source_of (d.byte1 % 16)
    → OneOf (0 ∷ 1 ∷ 2 ∷ []) (tag_of the_type s)
    → b ≡ supports d s
    → b ≡ usable (d.byte0 / 16) (d.byte1 % 16)
unfolding usable supports power_source_of
usable_named d s b e t h = rw h (go s (d.byte1 % 16) (rw e (named_number source_number source_names Reserved _ (λ k. refl))) t)
  where
    go :
        (s : PowerSource) (n : ℕ)
        → source_number s ≡ n
        → OneOf (0 ∷ 1 ∷ 2 ∷ []) (tag_of the_type s)
        → common (d.byte0 / 16) (source_bits s) ≡ usable (d.byte0 / 16) n
    go ConstantMainPower n e t = rw (← e)
    go RechargeableBattery n e t = rw (← e)
    go DisposableBattery n e t = rw (← e)
    go (Reserved k) n e t = absurd (⊎_elim (λ a. omega arith) (⊎_elim (λ a. omega arith) (λ a. omega arith)) t)

pub usable_sources : UsableSources
unfolding usable common any bit_at
usable_sources = record { named = λ a. simp (and-true, and-false, or-false); others = λ a c p q r. rw (ne_eqb c 1 p, ne_eqb c 2 q, ne_eqb c 4 r) }
