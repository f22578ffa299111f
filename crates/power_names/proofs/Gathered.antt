-- A number by its bits. Assumes nothing.
use Prim.Native.Nat.{ℕ, zero, suc, ◌+◌, ◌*◌, ◌/◌}
use native.Mathlib.Omega.{arith}
use mathlib.Core.Path.{◌≡◌}
use mathlib.Core.Bool.{Bool, ◌&&◌}
use lib.Dec.{ltb, leb-zero, leb-suc-zero, leb-suc-suc}
use Rattle.zigbee_types.specs.Bytes.{bit, bit_at}
use Rattle.zigbee_types.proofs.Bits.{bit_below, bit_is, bit_above, zero_bits}

-- the number whose low n bits are these
unfoldable pub gathered : ℕ → (ℕ → Bool) → ℕ
gathered zero f = 0
gathered (suc n) f = bit (f 0) + 2 * gathered n (λ i. f (suc i))

-- it has no others
pub gathered_bits : (n i : ℕ) (f : ℕ → Bool) → bit_at i (gathered n f) ≡ (ltb i n && f i)
unfolding gathered
gathered_bits zero i f = rw (zero_bits, leb-suc-zero)
gathered_bits (suc n) zero f = rw (leb-suc-suc, leb-zero) (bit_is 0 _ (f 0) (omega (arith, bit_below (f 0))))
gathered_bits (suc n) (suc i) f =
    let rest = gathered n (λ j. f (suc j)) in
    let halved : (bit (f 0) + 2 * rest) / 2 ≡ rest = omega (arith, bit_below (f 0)) in
    rw (bit_above, halved, leb-suc-suc) (gathered_bits n i (λ j. f (suc j)))
