-- A number in decimal, most significant digit first.
use Rattle.std.specs.Prelude.{ℕ, zero, suc, ◌+◌, ◌/◌, ◌%◌, cond, List, [], ◌∷◌, ◌++◌, ltb}

-- the character of a digit
abbrev pub digit : ℕ → ℕ
digit d = 48 + d

-- the digits of a number that has at most so many: below ten it is one digit; otherwise those of the quotient by ten come first, and
-- then the remainder
unfoldable pub digits_within : ℕ → ℕ → List ℕ
digits_within zero n = []
digits_within (suc k) n = cond (ltb n 10) (digit n ∷ []) (digits_within k (n / 10) ++ (digit (n % 10) ∷ []))

-- the digits of a number n, of which there are at most n + 1
unfoldable pub decimal : ℕ → List ℕ
decimal n = digits_within (n + 1) n
