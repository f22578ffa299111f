-- Fields whose numbers have names: which value a number stands for, and that it has the number. Assumes nothing.
use Prim.Native.Nat.{ℕ}
use mathlib.Core.Path.{◌≡◌, refl, sym}
use mathlib.Core.Bool.{Bool, true, false}
use mathlib.Core.List.{List, [], ◌∷◌}
use lib.Dec.{eqb}
use borrow.Author.Tests.{eqb-true, ne_eqb}
use Rattle.zigbee_types.specs.Lists.{find, option}
use Rattle.zigbee_types.specs.Named.{named}

-- n is the number of no name, in the shape that a `match` leaves in its last arm: a tuple nested to the left
abbrev pub Unnamed : {A : Type 0} → Type 0 → (A → ℕ) → ℕ → List A → Type 0
Unnamed before number n [] = before
Unnamed before number n (a ∷ names) = Unnamed (before × (n ≡ number a → ⊥)) number n names

-- its inner part
unnamed_before : {A : Type 0} (before : Type 0) (number : A → ℕ) (n : ℕ) (names : List A) → Unnamed before number n names → before
unnamed_before before number n [] u = u
unnamed_before before number n (a ∷ names) u = (unnamed_before (before × (n ≡ number a → ⊥)) number n names u).0

-- so it is reserved
pub named_rest :
    {A : Type 0} (before : Type 0) (number : A → ℕ) (names : List A) (reserved : ℕ → A) (n : ℕ)
    → Unnamed before number n names
    → reserved n ≡ named number names reserved n
unfolding named option find
named_rest before number [] reserved n u = refl
named_rest before number (a ∷ names) reserved n u =
    let different = (unnamed_before (before × (n ≡ number a → ⊥)) number n names u).1 in
    rw (ne_eqb (number a) n (λ e. different (sym e))) (named_rest (before × (n ≡ number a → ⊥)) number names reserved n u)

-- the value that a number stands for has that number
pub named_number :
    {A : Type 0} (number : A → ℕ) (names : List A) (reserved : ℕ → A) (n : ℕ)
    → ((k : ℕ) → number (reserved k) ≡ k)
    → number (named number names reserved n) ≡ n
unfolding named option find
named_number number [] reserved n h = h n
named_number number (a ∷ names) reserved n h = go (eqb (number a) n) refl (named_number number names reserved n h)
  where
    go :
        (b : Bool) → eqb (number a) n ≡ b → number (named number names reserved n) ≡ n → number (named number (a ∷ names) reserved n) ≡ n
    go true e rest = rw e (eqb-true (number a) n e)
    go false e rest = rw e rest
