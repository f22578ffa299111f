-- What is written reads back: a digit, the digits of bytes, and a line. Assumes nothing.
use Prim.Native.Nat.{ℕ, ◌+◌, ◌*◌, ◌/◌, ◌%◌, ◌^◌, ◌≤◌, ◌<◌}
use native.Mathlib.Omega.{arith}
use mathlib.Core.Path.{◌≡◌, refl}
use mathlib.Core.Bool.{Bool, true, false}
use mathlib.Core.List.{List, [], ◌∷◌}
use lib.Dec.{ltb}
use lib.ListN.{length}
use borrow.Author.Tests.{ltb-true, ltb-false, lt-ltb, le-leb, lt-leb, eq-eqb}
use Rattle.zigbee_types.specs.Lists.{all}
use Rattle.zigbee_types.specs.FieldLaws.{are_bytes}
use Rattle.zigbee_types.proofs.Numbers.{first_byte}
use Rattle.hex_lines.specs.Hex.{between, digit_value, is_digit, bytes_in, capital, digits_of}
use Rattle.hex_lines.specs.RequestLine.{is_request, cluster_in, request_in, hex_line}
use Rattle.hex_lines.specs.ReadBack.{DigitsReadBack, LineReadsBack}
use Rattle.hex_lines.proofs.Line.{length_line}

-- ---- a digit

-- a character lies between two others, or above both
module _ (low high c : ℕ) where
  inside : low ≤ c → c ≤ high → between low high c ≡ true
  unfolding between
  inside a b = rw (le-leb low c a, le-leb c high b)

  above : low ≤ c → high < c → between low high c ≡ false
  unfolding between
  above a b = rw (le-leb low c a, lt-leb c high b)

-- the value of the digit of a number below 16 is that number
capital_back : (n : ℕ) → n < 16 → digit_value (capital n) ≡ n
unfolding digit_value capital
capital_back n h = go (ltb n 10) refl
  where
    go : (t : Bool) → ltb n 10 ≡ t → digit_value (capital n) ≡ n
    go true e =
        let few : n < 10 = ltb-true n 10 e in
        rw (e, inside 48 57 (48 + n) (omega arith) (omega arith)) (omega arith)
    go false e =
        let many : 10 ≤ n = ltb-false n 10 e in
        rw (e, above 48 57 (55 + n) (omega arith) (omega arith), inside 65 70 (55 + n) (omega arith) (omega arith)) (omega arith)

-- so it is a digit
capital_is : (n : ℕ) → n < 16 → is_digit (capital n) ≡ true
unfolding is_digit
capital_is n h = rw (capital_back n h) (lt-ltb n 16 h)

-- ---- the digits of bytes

pub digits_back : DigitsReadBack
unfolding bytes_in digits_of
digits_back [] h = refl
digits_back (b ∷ bytes) h =
    let (fits, rest) = first_byte b bytes h in
    let same : 16 * (b / 16) + b % 16 ≡ b = omega arith in
    rw (capital_back (b / 16) (omega arith), capital_back (b % 16) (omega arith), same, digits_back bytes rest)

-- all of them are digits
digits_are : (bytes : List ℕ) → are_bytes bytes ≡ true → all is_digit (digits_of bytes) ≡ true
unfolding all digits_of
digits_are [] h = refl
digits_are (b ∷ bytes) h =
    let (fits, rest) = first_byte b bytes h in
    rw (capital_is (b / 16) (omega arith), capital_is (b % 16) (omega arith), digits_are bytes rest)

-- ---- a line

module _ (cluster : ℕ) (bytes : List ℕ) (fits : cluster < 2 ^ 16) where
  -- its cluster reads back
  cluster_back : cluster_in (hex_line cluster bytes) ≡ cluster
  unfolding cluster_in hex_line digits_of
  cluster_back =
      rw (
        capital_back (cluster / 256 / 16) (omega arith),
        capital_back (cluster / 256 % 16) (omega arith),
        capital_back (cluster % 256 / 16) (omega arith),
        capital_back (cluster % 256 % 16) (omega arith),
      ) (omega arith)

  -- and it passes the tests of a request
  line_is : are_bytes bytes ≡ true → 0 < length bytes → is_request (hex_line cluster bytes) ≡ true
  unfolding is_request hex_line digits_of all
  line_is are some =
      let long : 7 ≤ length (hex_line cluster bytes) = rw length_line (omega arith) in
      let odd : length (hex_line cluster bytes) % 2 ≡ 1 = rw length_line (omega arith) in
      let two : are_bytes (cluster / 256 ∷ cluster % 256 ∷ []) ≡ true =
      rw (lt-ltb (cluster / 256) 256 (omega arith), lt-ltb (cluster % 256) 256 (omega arith)) in
      rw (le-leb 7 _ long, eq-eqb _ 1 odd, digits_are (cluster / 256 ∷ cluster % 256 ∷ []) two, digits_are bytes are)

pub line_back : LineReadsBack
unfolding request_in hex_line digits_of
line_back cluster bytes fits are some = rw (line_is cluster bytes fits are some, cluster_back cluster bytes fits, digits_back bytes are)
