-- Tests of a list with one more element, a list of one element many times, the next of the first elements, and the length of an array
-- of structs. Assumes nothing.
use Prim.Native.Nat.{ℕ, zero, suc, ◌+◌, ◌-◌, ◌<◌}
use native.Mathlib.Numerals.{add-one}
use native.Mathlib.Omega.{arith}
use mathlib.Core.Path.{◌≡◌}
use mathlib.Core.Bool.{Bool, ◌||◌, ◌&&◌, or-false, or_assoc, and-true, and_assoc}
use mathlib.Core.List.{List, [], ◌∷◌, ◌++◌, map}
use lib.ListN.{length, get_or, take, drop, replicate, length-map, length-take}
use lib.Seq.{drop-cons, get_or-take}
use Rattle.zigbee_types.specs.Lists.{any, all}

module _ {A : Type 0} where
  -- some element of a list with one more passes
  pub any_last : (p : A → Bool) (xs : List A) (x : A) → any p (xs ++ (x ∷ [])) ≡ (any p xs || p x)
  unfolding any
  any_last p [] x = or-false (p x)
  any_last p (y ∷ xs) x = rw (any_last p xs x, or_assoc)

  -- every element of a list with one more passes
  pub all_last : (p : A → Bool) (xs : List A) (x : A) → all p (xs ++ (x ∷ [])) ≡ (all p xs && p x)
  unfolding all
  all_last p [] x = and-true (p x)
  all_last p (y ∷ xs) x = rw (all_last p xs x, and_assoc)

  -- what is left of m times one element behind the first n
  pub drop_replicate : (n m : ℕ) (a : A) → drop n (replicate m a) ≡ replicate (m - n) a
  drop_replicate zero m a = let all : m - 0 ≡ m = omega arith in rw all
  drop_replicate (suc n) zero a = let none : 0 - suc n ≡ 0 = omega arith in rw none
  drop_replicate (suc n) (suc m) a =
      let rest : suc m - suc n ≡ m - n = omega arith in
      rw rest (drop_replicate n m a)

  -- of the first n elements, the next one and those behind it
  pub front_next :
      (n : ℕ) (xs : List A) (i : ℕ) (z : A) → i < length (take n xs) → drop i (take n xs) ≡ get_or xs i z ∷ drop (i + 1) (take n xs)
  front_next n xs i z h =
      let inside : i < n = omega (arith, rw length-take at h) in
      rw (drop-cons (take n xs) i z h, get_or-take n xs i z inside, add-one)

-- an array of structs in a struct has as many elements as its type says
pub length_mapped : (X Y : Type 0) (f : X → Y) (xs : List X) (n : ℕ) → length (map f xs) ≡ n → length xs ≡ n
length_mapped X Y f xs n e = rw length-map at e
