-- Searches through a list: a step from the front, where the first element decides or what is behind it does; one more element at the
-- end; and what a test of all says of one. And a test that is turned round. Assumes nothing.
use Rattle.std.specs.Prelude.{Some, None}
use Prim.Native.Nat.{ℕ, zero, suc}
use mathlib.Core.Path.{◌≡◌, refl, sym, ◌∙◌}
use mathlib.Core.Bool.{Bool, true, false, not, cond, and-eq-true_iff}
use mathlib.Core.List.{List, [], ◌∷◌, ◌++◌}
use lib.ListN.{drop}
use borrow.Author.Tests.{not-true, not-false}
use Rattle.zigbee_types.specs.Lists.{any, all, filter, find}

module _ {A : Type 0} (p : A → Bool) where
  module _ {xs rest : List A} {x : A} (e : xs ≡ x ∷ rest) where
    pub any_here : p x ≡ true → any p xs ≡ true
    unfolding any
    any_here t = rw (e, t)

    pub any_next : p x ≡ false → any p xs ≡ any p rest
    unfolding any
    any_next t = rw (e, t)

    pub all_here : p x ≡ false → all p xs ≡ false
    unfolding all
    all_here t = rw (e, t)

    pub all_next : p x ≡ true → all p xs ≡ all p rest
    unfolding all
    all_next t = rw (e, t)

    pub find_here : p x ≡ true → find p xs ≡ Some x
    unfolding find
    find_here t = rw (e, t)

    pub find_next : p x ≡ false → find p xs ≡ find p rest
    unfolding find
    find_next t = rw (e, t)

  module _ {xs : List A} (e : xs ≡ []) where
    pub any_end : any p xs ≡ false
    unfolding any
    any_end = rw e

    pub all_end : all p xs ≡ true
    unfolding all
    all_end = rw e

    pub find_end : find p xs ≡ None
    unfolding find
    find_end = rw e

  -- of a list with one more element, those that pass
  pub filter_last : (xs : List A) (x : A) → filter p (xs ++ (x ∷ [])) ≡ filter p xs ++ filter p (x ∷ [])
  unfolding filter
  filter_last [] x = refl
  filter_last (y ∷ xs) x =
      elim (p y) as (λ t. cond t (y ∷ filter p (xs ++ (x ∷ []))) (filter p (xs ++ (x ∷ []))) ≡ cond t (y ∷ filter p xs) (filter p xs) ++ filter p (x ∷ [])) [
        | true ↦ rw (filter_last xs x)
        | false ↦ rw (filter_last xs x)
      ]

  -- where all elements pass, so does the first of those that are left
  pub all_left : (i : ℕ) (xs : List A) {x : A} {rest : List A} → drop i xs ≡ x ∷ rest → all p xs ≡ true → p x ≡ true
  unfolding all
  all_left zero xs {x} {rest} e t = ((and-eq-true_iff (p x) (all p rest)).0 (rw e at t)).0
  all_left (suc i) [] e t = cc
  all_left (suc i) (y ∷ xs) e t = all_left i xs e ((and-eq-true_iff (p y) (all p xs)).0 t).1

  -- where all elements pass a test, so does one that is found by another
  pub find_all : (q : A → Bool) (xs : List A) {x : A} → all q xs ≡ true → find p xs ≡ Some x → q x ≡ true
  unfolding all find
  find_all q [] t e = cc
  find_all q (y ∷ xs) {x} t e = go (p y) ((and-eq-true_iff (q y) (all q xs)).0 t) (find_all q xs) e
    where
      go : (b : Bool) → (q y ≡ true) × (all q xs ≡ true) → (all q xs ≡ true → find p xs ≡ Some x → q x ≡ true) → cond b (Some y) (find p xs) ≡ Some x → q x ≡ true
      go true (h, k) behind f = let same : y ≡ x = cc in rw same at h
      go false (h, k) behind f = behind k f

-- ---- a test that a callee made, and that its caller turned round

pub said_no : {t b : Bool} → t ≡ b → not t ≡ true → b ≡ false
said_no e h = sym e ∙ not-true _ h

pub said_yes : {t b : Bool} → t ≡ b → not t ≡ false → b ≡ true
said_yes e h = sym e ∙ not-false _ h
