-- Parts of lists, and searches in them.
use Rattle.std.specs.Prelude.{ℕ, Bool, true, false, ◌||◌, ◌&&◌, cond, List, [], ◌∷◌, take, drop, Option, Some, None}

module _ {A : Type 0} where
  -- n elements from a start on
  abbrev pub part : ℕ → ℕ → List A → List A
  part start n xs = take n (drop start xs)

  -- does some element pass the test?
  unfoldable pub any : (A → Bool) → List A → Bool
  any p [] = false
  any p (x ∷ xs) = p x || any p xs

  -- does every element pass the test?
  unfoldable pub all : (A → Bool) → List A → Bool
  all p [] = true
  all p (x ∷ xs) = p x && all p xs

  -- the elements that pass the test, in their order
  unfoldable pub filter : (A → Bool) → List A → List A
  filter p [] = []
  filter p (x ∷ xs) =
      let rest = filter p xs in
      cond (p x) (x ∷ rest) rest

  -- the first element that passes the test
  unfoldable pub find : (A → Bool) → List A → Option A
  find p [] = None
  find p (x ∷ xs) = cond (p x) (Some x) (find p xs)

-- f of what is there, and d where nothing is
unfoldable pub option : {A B : Type 0} → B → (A → B) → Option A → B
option d f None = d
option d f (Some a) = f a
