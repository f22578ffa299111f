-- Digits: the value of one, and the bytes that they stand for. Assumes nothing.
use Prim.Native.Nat.{ℕ, zero, suc, ◌+◌, ◌-◌, ◌*◌, ◌/◌, ◌≤◌, ◌<◌}
use native.Mathlib.Nat.{not-suc-le-zero}
use native.Mathlib.Omega.{arith}
use mathlib.Core.Path.{◌≡◌, refl, sym, ◌∙◌}
use mathlib.Core.Bool.{Bool, true, false, and-eq-true_iff}
use mathlib.Core.List.{List, [], ◌∷◌}
use lib.Dec.{leb}
use lib.ListN.{length, get_or}
use lib.Seq.{drop-cons}
use Rattle.std.proofs.Math.Bool.{and-false}
use borrow.Author.Tests.{leb-true, ltb-true, le-leb, lt-leb}
use Rattle.zigbee_types.specs.Lists.{all}
use Rattle.zigbee_types.proofs.Scans.{all_left}
use Rattle.hex_lines.specs.Hex.{between, digit_value, is_digit, bytes_in}

-- ---- one digit

-- a character lies between two others, or outside
module _ (low high c : ℕ) where
  pub inside : low ≤ c → c ≤ high → between low high c ≡ true
  unfolding between
  inside a b = rw (le-leb low c a, le-leb c high b)

  pub below : c < low → between low high c ≡ false
  unfolding between
  below a = rw (lt-leb low c a)

  pub above : high < c → between low high c ≡ false
  unfolding between
  above a = rw (lt-leb c high a) (and-false (leb low c))

-- between two others it is no lower than the first, nor than what is lower than that
pub from_low : (low high c k : ℕ) {t : Bool} → t ≡ between low high c → t ≡ true → k ≤ low → k ≤ c
unfolding between
from_low low high c k is holds h = let l = leb-true low c ((and-eq-true_iff (leb low c) (leb c high)).0 (sym is ∙ holds)).0 in omega arith

-- its value, by where it lies
module _ (c : ℕ) where
  pub value_decimal : between 48 57 c ≡ true → c - 48 ≡ digit_value c
  unfolding digit_value
  value_decimal a = rw a

  module _ (a : between 48 57 c ≡ false) where
    pub value_capital : between 65 70 c ≡ true → c - 55 ≡ digit_value c
    unfolding digit_value
    value_capital b = rw (a, b)

    module _ (b : between 65 70 c ≡ false) where
      pub value_small : between 97 102 c ≡ true → c - 87 ≡ digit_value c
      unfolding digit_value
      value_small d = rw (a, b, d)

      pub value_none : between 97 102 c ≡ false → 16 ≡ digit_value c
      unfolding digit_value
      value_none d = rw (a, b, d)

-- where all are digits, so is the one at a place
pub digit_at : (cs : List ℕ) (i : ℕ) → all is_digit cs ≡ true → i < length cs → digit_value (get_or cs i 0) < 16
unfolding is_digit
digit_at cs i t h = ltb-true (digit_value (get_or cs i 0)) 16 (all_left is_digit i cs (drop-cons cs i 0 h) t)

-- ---- bytes

-- there is one for every two digits
pub length_bytes : (ds : List ℕ) → length (bytes_in ds) ≡ length ds / 2
unfolding bytes_in
length_bytes [] = refl
length_bytes (a ∷ []) = refl
length_bytes (a ∷ b ∷ rest) = omega (arith, length_bytes rest)

-- the one at a place
pub byte_in :
    (ds : List ℕ) (i : ℕ)
    → i < length ds / 2
    → 16 * digit_value (get_or ds (2 * i) 0) + digit_value (get_or ds (2 * i + 1) 0) ≡ get_or (bytes_in ds) i 0
unfolding bytes_in
byte_in [] i h = absurd (not-suc-le-zero h)
byte_in (a ∷ []) i h = absurd (not-suc-le-zero h)
byte_in (a ∷ b ∷ rest) zero h = refl
byte_in (a ∷ b ∷ rest) (suc i) h =
    let high : 2 * suc i ≡ suc (suc (2 * i)) = omega arith in
    let low : 2 * suc i + 1 ≡ suc (suc (2 * i + 1)) = omega arith in
    rw (low, high) (byte_in rest i (omega arith))
