-- The bytes of a number, and the number of bytes, each law over the number of bytes. Assumes nothing.
use Prim.Native.Nat.{ℕ, zero, suc, ◌+◌, ◌*◌, ◌/◌, ◌%◌, ◌^◌, ◌<◌}
use native.Mathlib.Nat.{zero-add, suc-add, mul-zero, mul_assoc, pow-succ', div-one, mod-one, mod_def, mul-div-le, div-div-eq-div-mul}
use native.Mathlib.Omega.{arith}
use mathlib.Core.Path.{◌≡◌, refl, ap}
use mathlib.Core.Bool.{true, and-eq-true_iff}
use mathlib.Core.List.{List, [], ◌∷◌, ◌++◌}
use lib.Dec.{ltb}
use lib.ListN.{take, drop}
use lib.Seq.{take-nil}
use borrow.Author.Tests.{ltb-true, lt-ltb}
use Rattle.zigbee_types.specs.Lists.{all}
use Rattle.zigbee_types.specs.Bytes.{le, number}
use Rattle.zigbee_types.specs.FieldLaws.{are_bytes, BytesCounted, BytesBounded, NumberBounded, NumberReadsBack, BytesWriteBack}

-- a number modulo 256 * m is its low byte, and above that the rest of it modulo m
mod_byte : (m x : ℕ) → x % (256 * m) ≡ x % 256 + 256 * (x / 256 % m)
mod_byte m x =
    rw (mod_def x (256 * m), mod_def (x / 256) m, ← div-div-eq-div-mul x 256 m, mul_assoc)
    (omega (arith, mul-div-le (x / 256) m))

-- where all of a list are bytes, the first is one, and so are the others
pub first_byte : (b : ℕ) (bs : List ℕ) → are_bytes (b ∷ bs) ≡ true → (b < 256) × (are_bytes bs ≡ true)
unfolding all
first_byte b bs h = let (p, q) = (and-eq-true_iff (ltb b 256) (are_bytes bs)).0 h in (ltb-true b 256 p, q)

-- ---- the bytes of a number

pub le_counted : BytesCounted
unfolding le
le_counted zero x = refl
le_counted (suc k) x = ap suc (le_counted k (x / 256))

pub le_bounded : BytesBounded
unfolding le all
le_bounded zero x = refl
le_bounded (suc k) x = rw (lt-ltb (x % 256) 256 (omega arith)) (le_bounded k (x / 256))

-- the bytes of the low part, then those of the rest
pub le_split : (j k x : ℕ) → le (j + k) x ≡ le j x ++ le k (x / 256 ^ j)
unfolding le
le_split zero k x = rw (zero-add, div-one)
le_split (suc j) k x = rw (suc-add, pow-succ', ← div-div-eq-div-mul, le_split j k (x / 256))

-- what lies above the width leaves the bytes as they are
pub le_cut : (k x : ℕ) → le k (x % 256 ^ k) ≡ le k x
unfolding le
le_cut zero x = refl
le_cut (suc k) x =
    let low : x % 256 ^ suc k % 256 ≡ x % 256 = rw (pow-succ', mod_byte) (omega arith) in
    let high : x % 256 ^ suc k / 256 ≡ x / 256 % 256 ^ k = rw (pow-succ', mod_byte) (omega arith) in
    rw (low, high, le_cut k (x / 256))

-- ---- the number of bytes

pub number_bounded : NumberBounded
unfolding number all
number_bounded [] h = omega arith
number_bounded (b ∷ bs) h = let (p, q) = first_byte b bs h in rw pow-succ' (omega (arith, number_bounded bs q))

pub number_back : NumberReadsBack
unfolding le number
number_back zero x = rw mod-one
number_back (suc k) x = rw (pow-succ', mod_byte, number_back k (x / 256))

pub bytes_back : BytesWriteBack
unfolding le number all
bytes_back [] h = refl
bytes_back (b ∷ bs) h =
    let (p, q) = first_byte b bs h in
    let low : (b + 256 * number bs) % 256 ≡ b = omega arith in
    let high : (b + 256 * number bs) / 256 ≡ number bs = omega arith in
    rw (low, high, bytes_back bs q)

-- the number of the low bytes, and that of the rest in its place. Past the end of the list both sides count nothing
pub number_split :
    (j k : ℕ) (l : List ℕ) → number (take (j + k) l) ≡ number (take j l) + 256 ^ j * number (take k (drop j l))
unfolding number
number_split zero k l = rw (zero-add k) (omega arith)
number_split (suc j) k [] = rw (suc-add, take-nil) (omega (arith, mul-zero (256 ^ suc j)))
number_split (suc j) k (b ∷ bs) = rw (suc-add, pow-succ', mul_assoc, number_split j k bs) (omega arith)
