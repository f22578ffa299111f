-- Lists in which no entry stands twice: with an entry put last that they do not hold, and without an entry. Assumes nothing.
use mathlib.Core.Path.{◌≡◌, refl, ◌∙◌}
use mathlib.Core.Bool.{Bool, true, false, cond, not, and-eq-true_iff}
use mathlib.Core.List.{List, [], ◌∷◌, ◌++◌}
use borrow.Author.Tests.{not-true}
use Rattle.zigbee_types.specs.Lists.{any}
use Rattle.aps_binding.specs.Entry.{same}
use Rattle.aps_binding_table.specs.Held.{holds, without}
use Rattle.aps_binding.specs.declared.binding.Binding.{Binding}
use Rattle.aps_binding.specs.Same.{same_sym}
use Rattle.aps_binding_table.proofs.Holds.{holds_like, not_first, holds_last, holds_other}
use Rattle.demands.specs.Reached.{distinct}

-- the first entry is not held behind it, and the rest are distinct
distinct_first : (x : Binding) (xs : List Binding) → distinct (x ∷ xs) ≡ true → (holds x xs ≡ false) × (distinct xs ≡ true)
unfolding distinct
distinct_first x xs d =
    let (fresh, rest) = (and-eq-true_iff (not (holds x xs)) (distinct xs)).0 d in
    (not-true (holds x xs) fresh, rest)

distinct_more : (x : Binding) (xs : List Binding) → holds x xs ≡ false → distinct xs ≡ true → distinct (x ∷ xs) ≡ true
unfolding distinct
distinct_more x xs fresh rest = rw (fresh, rest)

pub distinct_last : (b : Binding) (xs : List Binding) → distinct xs ≡ true → holds b xs ≡ false → distinct (xs ++ (b ∷ [])) ≡ true
unfolding distinct holds any
distinct_last b [] d n = refl
distinct_last b (x ∷ xs) d n =
    let (fresh, rest) = distinct_first x xs d in
    let (other, out) = not_first b x xs n in
    distinct_more x (xs ++ (b ∷ [])) (holds_last x b xs ∙ rw (fresh, same_sym x b, other)) (distinct_last b xs rest out)

module _ (b : Binding) where
  -- without b it stays so, and b is not held any more
  without_both : (xs : List Binding) → distinct xs ≡ true → (distinct (without b xs) ≡ true) × (holds b (without b xs) ≡ false)
  unfolding without holds any
  without_both [] d = (d, refl)
  without_both (x ∷ xs) d =
      let (fresh, rest) = distinct_first x xs d in
      go (same b x) refl fresh rest (without_both xs rest)
    where
      go :
          (s : Bool)
          → same b x ≡ s
          → holds x xs ≡ false
          → distinct xs ≡ true
          → (distinct (without b xs) ≡ true) × (holds b (without b xs) ≡ false)
          → (distinct (cond s xs (x ∷ without b xs)) ≡ true) × (holds b (cond s xs (x ∷ without b xs)) ≡ false)
      go true e fresh rest r = (rest, holds_like b x xs e ∙ fresh)
      go false e fresh rest r = (distinct_more x (without b xs) (holds_other x b xs e ∙ fresh) r.0, rw (e, r.1))

  pub distinct_without : (xs : List Binding) → distinct xs ≡ true → distinct (without b xs) ≡ true
  distinct_without xs d = (without_both xs d).0

  pub holds_gone : (xs : List Binding) → distinct xs ≡ true → holds b (without b xs) ≡ false
  holds_gone xs d = (without_both xs d).1
