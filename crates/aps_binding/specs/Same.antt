-- Entries are the same exactly if they have one key, so each is the same as itself, and it does not matter which of two comes first
-- or which of two same ones is asked. Assumes nothing.
use Prim.Native.Nat.{ℕ}
use mathlib.Core.Path.{◌≡◌, refl, sym}
use mathlib.Core.Bool.{true, false≢true, and-eq-true_iff}
use mathlib.Core.List.{List, [], ◌∷◌}
use lib.Dec.{eqb}
use borrow.Author.Tests.{eqb-true, eq-eqb}
use Rattle.std.specs.Cmp.{IsPartialEquivalence, IsEquivalence, partial_equiv_from_equiv, both_ways}
use Rattle.aps_binding.specs.Entry.{key, alike, same}
use Rattle.aps_binding.specs.declared.binding.Binding.{Binding}

-- ---- lists of numbers

alike_refl : (xs : List ℕ) → alike xs xs ≡ true
unfolding alike
alike_refl [] = refl
alike_refl (x ∷ xs) = rw (eq-eqb x x refl) (alike_refl xs)

alike_equal : (xs ys : List ℕ) → alike xs ys ≡ true → xs ≡ ys
unfolding alike
alike_equal [] [] e = refl
alike_equal [] (y ∷ ys) e = absurd (false≢true e)
alike_equal (x ∷ xs) [] e = absurd (false≢true e)
alike_equal (x ∷ xs) (y ∷ ys) e =
    let (first, rest) = (and-eq-true_iff (eqb x y) (alike xs ys)).0 e in
    rw (eqb-true x y first, alike_equal xs ys rest)

-- ---- entries

pub same_key : (a b : Binding) → same a b ≡ true → key a ≡ key b
unfolding same
same_key a b e = alike_equal (key a) (key b) e

pub key_same : (a b : Binding) → key a ≡ key b → same a b ≡ true
unfolding same
key_same a b e = rw e (alike_refl (key b))

pub same_refl : (a : Binding) → same a a ≡ true
same_refl a = key_same a a refl

pub same_sym : (a b : Binding) → same a b ≡ same b a
same_sym a b = both_ways (same a b) (same b a) (λ e. key_same b a (sym (same_key a b e))) (λ e. key_same a b (sym (same_key b a e)))

-- same entries are the same as the same others
pub same_like : (a b c : Binding) → same a b ≡ true → same a c ≡ same b c
unfolding same
same_like a b c e = rw (same_key a b e)

-- so `==` is an equivalence
pub same_equivalence : IsEquivalence same
same_equivalence = record { refl = same_refl; symm = same_sym; congr = same_like }

pub same_partial : IsPartialEquivalence same
same_partial = partial_equiv_from_equiv same_equivalence
