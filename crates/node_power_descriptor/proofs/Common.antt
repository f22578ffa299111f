-- What two fields of four bits have in common, by their bits. Assumes nothing.
use Prim.Native.Nat.{ℕ, zero, suc, ◌+◌, ◌*◌, ◌/◌, ◌%◌}
use native.Mathlib.Omega.{arith}
use mathlib.Core.Path.{◌≡◌, refl}
use mathlib.Core.Bool.{Bool, true, false, not, ◌||◌, ◌&&◌, and-false}
use lib.Bits.{bit_and}
use lib.Dec.{eqb, ltb, eqb-suc-zero}
use borrow.Author.Tests.{ne_eqb}
use Rattle.zigbee_types.specs.Bytes.{bit, bit_at}
use Rattle.zigbee_types.specs.Lists.{any}
use Rattle.zigbee_types.proofs.Bits.{low_bits, same_bits, and_bits}
use Rattle.power_names.specs.Names.{source_number, source_bits}
use Rattle.power_names.specs.declared.PowerSource.{PowerSource}
use Rattle.power_names.proofs.Gathered.{gathered, gathered_bits}
use Rattle.node_power_descriptor.specs.PowerDescriptor.{common, supports}
use Rattle.node_power_descriptor.specs.declared.NodePowerDescriptor.{NodePowerDescriptor}

-- is one of the first n flags set?
some : ℕ → (ℕ → Bool) → Bool
some zero f = false
some (suc n) f = f 0 || some n (λ i. f (suc i))

-- exactly then the number is not zero
gathered_some : (n : ℕ) (f : ℕ → Bool) → not (eqb (gathered n f) 0) ≡ some n f
unfolding gathered some bit
gathered_some zero f = refl
gathered_some (suc n) f = rw (← gathered_some n (λ i. f (suc i))) (lowest (f 0) (gathered n (λ i. f (suc i))))
  where
    lowest : (b : Bool) (m : ℕ) → not (eqb (bit b + 2 * m) 0) ≡ (b || not (eqb m 0))
    lowest true m = rw (ne_eqb (1 + 2 * m) 0 (omega arith))
    lowest false zero = refl
    lowest false (suc m) = rw (ne_eqb (0 + 2 * suc m) 0 (omega arith), eqb-suc-zero)

-- two fields have one exactly if what both have is not zero
common_told : (a m : ℕ) → not (eqb (bit_and a (m % 16)) 0) ≡ common a (m % 16)
unfolding common any some
common_told a m = rw both (gathered_some 4 (λ i. bit_at i a && bit_at i (m % 16)))
  where
    low : (l p q : Bool) → (p && (l && q)) ≡ (l && (p && (l && q)))
    low true p q = refl
    low false p q = and-false p

    both : bit_and a (m % 16) ≡ gathered 4 (λ i. bit_at i a && bit_at i (m % 16))
    both =
        same_bits
        (bit_and a (m % 16))
        (gathered 4 (λ i. bit_at i a && bit_at i (m % 16)))
        (λ i. rw (and_bits, gathered_bits, low_bits 4 i m) (low (ltb i 4) (bit_at i a) (bit_at i m)))

-- so a source is among the available
pub supports_told :
    (d : NodePowerDescriptor) (s : PowerSource) (n : ℕ) → n ≡ source_bits s → not (eqb (bit_and (d.byte0 / 16) n) 0) ≡ supports d s
unfolding supports
supports_told d s n e = rw e (common_told (d.byte0 / 16) (source_number s))
