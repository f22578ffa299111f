-- What digits stand for, and that those of a number stand for it, as statements. A term of each stands in proofs/.
use Rattle.std.specs.Prelude.{ℕ, ◌+◌, ◌-◌, ◌*◌, ◌<◌, ◌≡◌, Bool, true, ◌&&◌, List, [], ◌∷◌, leb, get_or}
use Rattle.zigbee_types.specs.Lists.{all}
use Rattle.decimal.specs.Decimal.{decimal}

-- the number that digits stand for behind those that stand for n
unfoldable pub read_on : ℕ → List ℕ → ℕ
read_on n [] = n
read_on n (c ∷ rest) = read_on (10 * n + (c - 48)) rest

-- the digits of a number stand for it
abbrev pub DecimalReadsBack : Type 0
DecimalReadsBack = (n : ℕ) → read_on 0 (decimal n) ≡ n

-- `9`
abbrev pub NINE : ℕ
NINE = 57

-- is a character one of `0` to `9`?
unfoldable pub is_decimal : ℕ → Bool
is_decimal c = leb 48 c && leb c NINE

-- each of them is
abbrev pub DecimalDigits : Type 0
DecimalDigits = (n : ℕ) → all is_decimal (decimal n) ≡ true

-- and there is none in front that need not be: 0 has one, `0`, and the first digit of any other number is no zero
abbrev pub DecimalShort : Type 0
DecimalShort = (decimal 0 ≡ 48 ∷ []) × ((n : ℕ) → 0 < n → 48 < get_or (decimal n) 0 0)
