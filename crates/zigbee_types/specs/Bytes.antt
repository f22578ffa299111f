-- Numbers as bytes and bits. A number of more than one byte travels least significant byte first (document 01, module 1).
use Rattle.std.specs.Prelude.{ℕ, zero, suc, ◌+◌, ◌*◌, ◌/◌, ◌%◌, ◌^◌, ◌≡◌, Bool, true, false, List, [], ◌∷◌, eqb}
use Rattle.std.proofs.lemmas.List.Edits.{sets}
use Rattle.zigbee_types.specs.Lists.{part}

-- the low k bytes of x
unfoldable pub le : ℕ → ℕ → List ℕ
le zero x = []
le (suc k) x = x % 256 ∷ le k (x / 256)

-- the number that bytes stand for
unfoldable pub number : List ℕ → ℕ
number [] = 0
number (b ∷ bs) = b + 256 * number bs

-- the number in the k bytes at a place; bytes past the end count as zeros
unfoldable pub number_at : ℕ → List ℕ → ℕ → ℕ
number_at k bytes at = number (part at k bytes)

-- bit i of x, counted from the lowest, 0
unfoldable pub bit_at : ℕ → ℕ → Bool
bit_at i x = eqb (x / 2 ^ i % 2) 1

-- a flag as the bit that is written for it
unfoldable pub bit : Bool → ℕ
bit true = 1
bit false = 0

-- k bytes were read at a place: the number in them, and the place behind them
pub record FieldRead (k : ℕ) (bytes : List ℕ) (at value next : ℕ) : Type 0 where
  pub told : value ≡ number_at k bytes at
  pub moved : next ≡ at + k

-- the low k bytes of x were put at a place: the place behind them, and the buffer with them in it
pub record FieldPut (k x : ℕ) (before : List ℕ) (at next : ℕ) (after : List ℕ) : Type 0 where
  pub moved : next ≡ at + k
  pub left : after ≡ sets before at (le k x)
