-- std's searches through a list, as its chains of iterators say them, are those of the specs. Assumes nothing.
use Rattle.std.specs.Prelude.{find}
use Rattle.std.specs.List.{list_all}
use mathlib.Core.Path.{◌≡◌, refl}
use mathlib.Core.Bool.{Bool}
use mathlib.Core.List.{List, [], ◌∷◌}
use Rattle.zigbee_types.specs.Lists as own

module _ {A : Type 0} (p : A → Bool) where
  pub same_find : (xs : List A) → find p xs ≡ own.find p xs
  unfolding own.find
  same_find [] = refl
  same_find (x ∷ xs) = rw (same_find xs)

  pub same_all : (xs : List A) → list_all p xs ≡ own.all p xs
  unfolding own.all
  same_all [] = refl
  same_all (x ∷ xs) = rw (same_all xs)
