-- Steps one after the other: the state that they leave, and how many of them pass a test.
use Rattle.std.specs.Prelude.{ℕ, ◌+◌, Bool, List, [], ◌∷◌}
use Rattle.zigbee_types.specs.Bytes.{bit}

module _ {S C : Type 0} where
  -- the state after all of them
  unfoldable pub left : (S → C → S) → S → List C → S
  left step s [] = s
  left step s (c ∷ cs) = left step (step s c) cs

  -- how many pass a test, each in the state that it finds
  unfoldable pub how_many : (S → C → S) → (S → C → Bool) → S → List C → ℕ
  how_many step test s [] = 0
  how_many step test s (c ∷ cs) = bit (test s c) + how_many step test (step s c) cs
