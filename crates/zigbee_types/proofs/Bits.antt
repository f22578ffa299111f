-- Bits of numbers: flags as bits, numbers by their bits, operations bit by bit, and what a mask takes out. Each law is over the
-- bit's number. Assumes nothing.
use Prim.Native.Nat.{ℕ, zero, suc, ◌+◌, ◌-◌, ◌*◌, ◌/◌, ◌%◌, ◌^◌, ◌≤◌, ◌<◌}
use native.Mathlib.Nat.{zero-add, suc-add, one-mul, zero-mul, mod-eq_of_lt, mod-one, zero-div, div-one, div-eq_of_lt, lt_of_lt_of_le, two-pow-succ}
use native.Mathlib.Numerals.{add-one}
use native.Mathlib.Omega.{arith}
use mathlib.Core.Path.{◌≡◌, refl}
use mathlib.Core.Bool.{Bool, true, false, not, ◌||◌, ◌&&◌}
use lib.Dec.{eqb, ltb, leb-zero, leb-suc-zero, leb-suc-suc}
use lib.Bits.{bit_and, bit_or, and_high, and_shr, and_mod, or_shr, or_mod}
use lib.Pow.{pow_pos, pow_mono, pow-lt, shr-shr, field, mod-mod-pow}
use borrow.Author.Tests.{eq-eqb, ne_eqb}
use Rattle.zigbee_types.specs.Bytes.{bit, bit_at}
use Rattle.zigbee_types.specs.FieldLaws.{MaskTellsBit}

-- a flag's bit is 0 or 1
pub bit_below : (b : Bool) → bit b < 2
unfolding bit
bit_below true = omega arith
bit_below false = omega arith

-- where a number's bit i is a flag's, `bit_at` gives the flag
pub bit_is : (i x : ℕ) (b : Bool) → x / 2 ^ i % 2 ≡ bit b → bit_at i x ≡ b
unfolding bit bit_at
bit_is i x true e = eq-eqb _ 1 e
bit_is i x false e = rw e

-- a digit is the bit of the flag that says whether it is 1
digit_flag : (d : ℕ) → d < 2 → d ≡ bit (eqb d 1)
unfolding bit
digit_flag zero h = refl
digit_flag (suc zero) h = refl
digit_flag (suc (suc d)) h = absurd (omega arith)

-- so is a number's bit i
pub bit_told : (i x : ℕ) → x / 2 ^ i % 2 ≡ bit (bit_at i x)
unfolding bit_at
bit_told i x = digit_flag (x / 2 ^ i % 2) (omega arith)

-- the bits above the lowest are those of the half
pub bit_above : (i x : ℕ) → bit_at (suc i) x ≡ bit_at i (x / 2)
unfolding bit_at
bit_above i x =
    let halved : x / 2 / 2 ^ i ≡ x / 2 ^ suc i = rw (suc-add 0 i, zero-add) at (shr-shr x 1 i) in
    rw halved

-- zero has no bit
pub zero_bits : (i : ℕ) → bit_at i 0 ≡ false
unfolding bit_at
zero_bits i = rw zero-div

-- a number modulo 2 ^ n keeps its low n bits, and no others
pub low_bits : (n i x : ℕ) → bit_at i (x % 2 ^ n) ≡ (ltb i n && bit_at i x)
low_bits zero i x = rw (mod-one, zero_bits, leb-suc-zero)
low_bits (suc n) zero x =
    let same : x % 2 ^ suc n % 2 ≡ x % 2 = rw add-one at (mod-mod-pow x n 1) in
    rw (leb-suc-suc, leb-zero) (bit_is 0 (x % 2 ^ suc n) (bit_at 0 x) (rw (div-one, same) (rw div-one at (bit_told 0 x))))
low_bits (suc n) (suc i) x =
    let halved : x % 2 ^ suc n / 2 ≡ x / 2 % 2 ^ n = rw add-one at (field x n 1) in
    rw (bit_above i (x % 2 ^ suc n), bit_above i x, halved, leb-suc-suc) (low_bits n i (x / 2))

-- numbers that have the same bits are the same
pub same_bits : (x y : ℕ) → ((i : ℕ) → bit_at i x ≡ bit_at i y) → x ≡ y
same_bits x y h = within (x + y) x y (omega arith) (omega arith) h
  where
    within : (n x y : ℕ) → x ≤ n → y ≤ n → ((i : ℕ) → bit_at i x ≡ bit_at i y) → x ≡ y
    within zero x y p q h = omega arith
    within (suc n) x y p q h =
        let above : (i : ℕ) → bit_at i (x / 2) ≡ bit_at i (y / 2) = λ i. rw (← bit_above i x, ← bit_above i y) (h (suc i)) in
        let halves : x / 2 ≡ y / 2 = within n (x / 2) (y / 2) (omega arith) (omega arith) above in
        let lowest : x / 2 ^ 0 % 2 ≡ y / 2 ^ 0 % 2 = rw (bit_told 0 x, bit_told 0 y, h 0) in
        omega arith

-- ---- operations on numbers, bit by bit

-- an operation that goes digit by digit goes flag by flag
module _
    (op : ℕ → ℕ → ℕ)
    (on : Bool → Bool → Bool)
    (shr : (x y k : ℕ) → op x y / 2 ^ k ≡ op (x / 2 ^ k) (y / 2 ^ k))
    (low : (x y k : ℕ) → op x y % 2 ^ k ≡ op (x % 2 ^ k) (y % 2 ^ k))
    (digits : (p q : Bool) → op (bit p) (bit q) ≡ bit (on p q)) where
  op_bits : (i x y : ℕ) → bit_at i (op x y) ≡ on (bit_at i x) (bit_at i y)
  op_bits i x y =
      bit_is i (op x y) (on (bit_at i x) (bit_at i y)) (rw (shr x y i, low (x / 2 ^ i) (y / 2 ^ i) 1, bit_told i x, bit_told i y) (digits _ _))

-- a bit is set in the union if it is set in one of the two
pub or_bits : (i x y : ℕ) → bit_at i (bit_or x y) ≡ (bit_at i x || bit_at i y)
unfolding bit
or_bits = op_bits bit_or ◌||◌ or_shr or_mod digits
  where
    digits : (p q : Bool) → bit_or (bit p) (bit q) ≡ bit (p || q)
    digits true true = refl
    digits true false = refl
    digits false q = refl

-- and in what they have in common if it is set in both
pub and_bits : (i x y : ℕ) → bit_at i (bit_and x y) ≡ (bit_at i x && bit_at i y)
unfolding bit
and_bits = op_bits bit_and ◌&&◌ and_shr and_mod digits
  where
    digits : (p q : Bool) → bit_and (bit p) (bit q) ≡ bit (p && q)
    digits true true = refl
    digits true false = refl
    digits false q = refl

-- ---- masks

-- the mask of one bit takes out that bit, in its place
and_bit : (i x : ℕ) → bit_and x (2 ^ i) ≡ x / 2 ^ i % 2 * 2 ^ i
and_bit i x =
    let mask : 2 ^ (1 + i) - 2 ^ i ≡ 2 ^ i = rw (suc-add 0 i, zero-add, two-pow-succ) (omega arith) in
    rw mask at (and_high x 1 i)

-- one digit in a place of the number is not zero exactly if it is 1
digit_told : (d m : ℕ) → d < 2 → zero < m → not (eqb (d * m) 0) ≡ eqb d 1
digit_told zero m h p = rw zero-mul
digit_told (suc zero) m h p = rw (one-mul, ne_eqb m 0 (omega arith))
digit_told (suc (suc d)) m h p = absurd (omega arith)

pub mask_tells : MaskTellsBit
unfolding bit_at
mask_tells i x = rw and_bit (digit_told (x / 2 ^ i % 2) (2 ^ i) (omega arith) (pow_pos i))

-- so does a mask that is made by a shift in sixteen bits
pub shifted_tells : (i x : ℕ) → i < 16 → not (eqb (bit_and x (1 * 2 ^ i % 65536)) 0) ≡ bit_at i x
shifted_tells i x h = rw (one-mul, mod-eq_of_lt (pow-lt {i = i} {j = 16} h)) (mask_tells i x)

-- a number of sixteen bits has no bit above them
pub no_bit : (i x : ℕ) → 16 ≤ i → x < 65536 → false ≡ bit_at i x
unfolding bit_at
no_bit i x h b = rw (div-eq_of_lt {n = x} {m = 2 ^ i} (lt_of_lt_of_le b (pow_mono {i = 16} {j = i} h)))
