-- Bytes as hexadecimal digits, two for each, the high one first.
use Rattle.std.specs.Prelude.{ℕ, ◌+◌, ◌-◌, ◌*◌, ◌/◌, ◌%◌, ◌≡◌, Bool, ◌&&◌, cond, List, [], ◌∷◌, leb, ltb, length}
use Rattle.std.proofs.lemmas.List.Edits.{sets}

-- does a character lie between two others, or is it one of them?
unfoldable pub between : ℕ → ℕ → ℕ → Bool
between low high c = leb low c && leb c high

-- the value of a digit: `0` to `9`, `A` to `F` and `a` to `f`; 16 for a character that is none
unfoldable pub digit_value : ℕ → ℕ
digit_value c = cond (between 48 57 c) (c - 48) (cond (between 65 70 c) (c - 55) (cond (between 97 102 c) (c - 87) 16))

-- is a character a digit?
unfoldable pub is_digit : ℕ → Bool
is_digit c = ltb (digit_value c) 16

-- the bytes that digits stand for; a last one by itself stands for none
unfoldable pub bytes_in : List ℕ → List ℕ
bytes_in [] = []
bytes_in (a ∷ []) = []
bytes_in (a ∷ b ∷ rest) = (16 * digit_value a + digit_value b) ∷ bytes_in rest

-- the digit of a number below 16, in capitals
unfoldable pub capital : ℕ → ℕ
capital n = cond (ltb n 10) (48 + n) (55 + n)

-- the digits of bytes
unfoldable pub digits_of : List ℕ → List ℕ
digits_of [] = []
digits_of (b ∷ bytes) = capital (b / 16) ∷ capital (b % 16) ∷ digits_of bytes

-- bytes, or the characters of digits, were put one behind the other from a place on: the place behind them, and the buffer with them in
-- it
pub record BytesPut (bytes before : List ℕ) (at next : ℕ) (after : List ℕ) : Type 0 where
  pub moved : next ≡ at + length bytes
  pub left : after ≡ sets before at bytes
