-- What a search for an entry says of the entries that are held. Assumes nothing.
use Prim.Native.Nat.{ℕ, ◌+◌, ◌<◌}
use mathlib.Core.Path.{◌≡◌, refl, sym, ◌∙◌}
use mathlib.Core.Bool.{Bool, true, false, cond, not, ◌||◌}
use mathlib.Core.List.{List, [], ◌∷◌}
use native.Mathlib.Nat.{add_comm}
use native.Mathlib.Numerals.{add-one}
use native.Mathlib.Omega.{arith}
use lib.Dec.{ltb, leb-suc-suc}
use lib.ListN.{length}
use borrow.Author.Tests.{lt-ltb, ltb-true}
use Rattle.std.specs.Prelude.{Option, Some, None}
use Rattle.std.specs.List.{list_any, position, position_or_len}
use Rattle.zigbee_types.specs.Lists.{any}
use Rattle.aps_binding.specs.Entry.{same}
use Rattle.aps_binding.specs.Same.{same_sym}
use Rattle.aps_binding_table.specs.Held.{holds, without}
use Rattle.aps_binding.specs.declared.binding.Binding.{Binding}
use Rattle.aps_binding_table.proofs.Shift.{cut}

-- a place is given where a test passes
given_none : (p : Bool) (n : ℕ) → None ≡ cond p (Some n) None → p ≡ false
given_none true n e = cc
given_none false n e = refl

given_some : (p : Bool) (n at : ℕ) → Some at ≡ cond p (Some n) None → (p ≡ true) × (at ≡ n)
given_some true n at e = (refl, (cc))
given_some false n at e = cc

module _ (b : Binding) where
  -- the place of the first entry that is the same; behind the last, where none is
  abbrev pub place : List Binding → ℕ
  place xs = position_or_len (λ x. same x b) xs

  -- a search for an entry tells whether it is held
  pub holds_any : (xs : List Binding) → holds b xs ≡ list_any (λ x. same x b) xs
  unfolding holds any
  holds_any [] = refl
  holds_any (x ∷ xs) = rw (same_sym b x, holds_any xs)

  -- it is if its place comes before the end
  pub holds_place : (xs : List Binding) → holds b xs ≡ ltb (place xs) (length xs)
  unfolding holds any
  holds_place [] = refl
  holds_place (x ∷ xs) =
      rw (same_sym b x)
      (elim (same x b) as (λ s. s || any (same b) xs ≡ ltb (cond (not s) (1 + place xs) 0) (length (x ∷ xs))) [
        | true ↦ sym (lt-ltb 0 (length (x ∷ xs)) (omega arith))
        | false ↦ rw (add_comm 1 (place xs), add-one, leb-suc-suc) (holds_place xs)
      ])

  -- what is left without it stands before its place and behind it
  pub without_place : (xs : List Binding) → without b xs ≡ cut (place xs) xs
  unfolding without
  without_place [] = refl
  without_place (x ∷ xs) =
      rw (same_sym b x)
      (elim (same x b) as (λ s. cond s xs (x ∷ without b xs) ≡ cut (cond (not s) (1 + place xs) 0) (x ∷ xs)) [
        | true ↦ refl
        | false ↦ rw (without_place xs, add_comm 1 (place xs), add-one, add-one)
      ])

  module _ (xs : List Binding) {found : Option ℕ} (is : found ≡ position (λ x. same x b) xs) where
    -- no place is found, and none is held
    pub missed : found ≡ None → holds b xs ≡ false
    missed h = holds_place xs ∙ given_none _ (place xs) (sym h ∙ is)

    -- one is found, and is that of the first that is held
    pub at_place : (at : ℕ) → found ≡ Some at → (holds b xs ≡ true) × (at < length xs) × (without b xs ≡ cut at xs)
    at_place at h =
        let (before, first) = given_some _ (place xs) at (sym h ∙ is) in
        let inside : place xs < length xs = ltb-true (place xs) (length xs) before in
        (holds_place xs ∙ before, rw first inside, rw first (without_place xs))
