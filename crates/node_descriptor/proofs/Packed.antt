-- Fields that share a byte: what a mask, a shift and a union of bits make of them. Assumes nothing.
use Prim.Native.Nat.{ℕ, ◌+◌, ◌*◌, ◌%◌, ◌^◌, ◌<◌}
use native.Mathlib.Nat.{zero-mul, one-mul, mod-eq_of_lt}
use native.Mathlib.Omega.{arith}
use mathlib.Core.Path.{◌≡◌}
use mathlib.Core.Bool.{Bool, true, false}
use lib.Bits.{bit_and, bit_or, and_mask, or_shifted_r}
use lib.Pow.{pow-lt}
use mir.Val.{bool_byte}
use Rattle.zigbee_types.specs.Bytes.{bit}
use Rattle.zigbee_types.proofs.Bits.{bit_below}

-- a flag that is shifted to bit k of a byte stands above what is below that bit
flag_packed : (k x : ℕ) (b : Bool) → k < 8 → x < 2 ^ k → bit_or x (bool_byte b * 2 ^ k % 256) ≡ bit b * 2 ^ k + x
unfolding bit
flag_packed k x true l h = rw (one-mul, mod-eq_of_lt (pow-lt {i = k} {j = 8} l)) (rw one-mul at (or_shifted_r 1 k x h))
flag_packed k x false l h = rw zero-mul (rw zero-mul at (or_shifted_r 0 k x h))

-- three bits of a number, a flag in bit 3 and one in bit 4
pub type_packed :
    (n : ℕ) {t : ℕ} (c u : Bool)
    → t ≡ n % 8
    → bit_or (bit_or t (bool_byte c * 8 % 256)) (bool_byte u * 16 % 256) ≡ n % 8 + 8 * bit c + 16 * bit u
type_packed n c u e =
    let b = bit_below c in
    rw (e, flag_packed 3 (n % 8) c (omega arith) (omega arith), flag_packed 4 (bit c * 8 + n % 8) u (omega arith) (omega arith))
    (omega arith)

-- five bits of a number, from bit 3 on
pub band_packed : (n : ℕ) → bit_and n 31 * 8 % 256 ≡ 8 * (n % 32)
band_packed n = rw (and_mask n 5) (omega arith)
