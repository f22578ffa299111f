-- Which entries a list holds with one put last, and without one. Assumes nothing.
use Prim.Native.Nat.{◌+◌}
use native.Mathlib.Omega.{arith}
use mathlib.Core.Path.{◌≡◌, refl, sym, ◌∙◌}
use mathlib.Core.Bool.{Bool, true, false, ◌||◌, cond, true≢false, false≢true, or-true, and-eq-true_iff}
use mathlib.Core.List.{List, [], ◌∷◌, ◌++◌}
use lib.ListN.{length}
use Rattle.zigbee_types.specs.Lists.{any, all}
use Rattle.zigbee_types.proofs.Elements.{any_last}
use Rattle.aps_binding.specs.Entry.{same}
use Rattle.aps_binding_table.specs.Held.{holds, without}
use Rattle.aps_binding.specs.declared.binding.Binding.{Binding}
use Rattle.aps_binding.specs.Same.{same_refl, same_sym, same_like}

-- an entry is held where a same one is
pub holds_like : (b c : Binding) (xs : List Binding) → same b c ≡ true → holds b xs ≡ holds c xs
unfolding holds any
holds_like b c [] e = refl
holds_like b c (x ∷ xs) e = rw (same_like b c x e, holds_like b c xs e)

-- so an entry that is held is not the same as one that is not
pub not_same : (b c : Binding) (xs : List Binding) → holds b xs ≡ false → holds c xs ≡ true → same b c ≡ false
not_same b c xs n h = go (same b c) refl
  where
    go : (s : Bool) → same b c ≡ s → s ≡ false
    go true e = absurd (true≢false (sym h ∙ sym (holds_like b c xs e) ∙ n))
    go false e = refl

-- an entry that is not held is not the same as the first, nor held behind it
pub not_first : (b x : Binding) (xs : List Binding) → holds b (x ∷ xs) ≡ false → (same b x ≡ false) × (holds b xs ≡ false)
unfolding holds any
not_first b x xs n = neither (same b x) (any (same b) xs) n
  where
    neither : (p q : Bool) → (p || q) ≡ false → (p ≡ false) × (q ≡ false)
    neither true q e = absurd (true≢false e)
    neither false q e = (refl, e)

-- ---- with b put last

pub holds_last : (c b : Binding) (xs : List Binding) → holds c (xs ++ (b ∷ [])) ≡ (holds c xs || same c b)
unfolding holds
holds_last c b xs = any_last (same c) xs b

-- what was held is held
pub last_keeps : (c b : Binding) (xs : List Binding) → holds c xs ≡ true → holds c (xs ++ (b ∷ [])) ≡ true
last_keeps c b xs h = rw (holds_last c b xs, h)

-- and so is b
pub last_held : (b : Binding) (xs : List Binding) → holds b (xs ++ (b ∷ [])) ≡ true
last_held b xs = rw (holds_last b b xs, same_refl b) (or-true (holds b xs))

-- and nothing else: where b and all that was held are held in zs, so is all that is held then
pub last_within :
    (b : Binding) (xs zs : List Binding)
    → ((c : Binding) → holds c xs ≡ true → holds c zs ≡ true)
    → holds b zs ≡ true
    → (c : Binding)
    → holds c (xs ++ (b ∷ [])) ≡ true
    → holds c zs ≡ true
last_within b xs zs within h c l = go (holds c xs) refl (rw (holds_last c b xs) at l)
  where
    go : (p : Bool) → holds c xs ≡ p → (p || same c b) ≡ true → holds c zs ≡ true
    go true e o = within c e
    go false e o = holds_like c b zs o ∙ h

-- ---- without the first that is the same as b

-- no other entry goes
pub holds_other : (c b : Binding) (xs : List Binding) → same b c ≡ false → holds c (without b xs) ≡ holds c xs
unfolding holds any without
holds_other c b [] n = refl
holds_other c b (x ∷ xs) n = go (same b x) refl (holds_other c b xs n)
  where
    go :
        (s : Bool)
        → same b x ≡ s
        → any (same c) (without b xs) ≡ any (same c) xs
        → any (same c) (cond s xs (x ∷ without b xs)) ≡ (same c x || any (same c) xs)
    go true e r = rw (same_sym c x, ← same_like b x c e, n)
    go false e r = rw r

-- one entry goes, where one is held
pub length_without : (b : Binding) (xs : List Binding) → holds b xs ≡ true → length (without b xs) + 1 ≡ length xs
unfolding holds any without
length_without b [] h = absurd (false≢true h)
length_without b (x ∷ xs) h =
    (elim (same b x) as (λ s. (s || any (same b) xs) ≡ true → length (cond s xs (x ∷ without b xs)) + 1 ≡ length (x ∷ xs)) [
      | true ↦ λ _. omega arith
      | false ↦ λ e. omega (arith, length_without b xs e)
    ])
    h

-- a test that every entry passes, every entry that is left passes
pub all_without : (p : Binding → Bool) (b : Binding) (xs : List Binding) → all p xs ≡ true → all p (without b xs) ≡ true
unfolding all without
all_without p b [] h = refl
all_without p b (x ∷ xs) h =
    let (first, rest) = (and-eq-true_iff (p x) (all p xs)).0 h in
    go (same b x) first rest (all_without p b xs rest)
  where
    go : (s : Bool) → p x ≡ true → all p xs ≡ true → all p (without b xs) ≡ true → all p (cond s xs (x ∷ without b xs)) ≡ true
    go true f r w = r
    go false f r w = rw (f, w)
