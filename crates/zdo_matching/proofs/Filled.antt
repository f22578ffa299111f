-- A buffer that is begun with as many of a list as there is room for: with none, with what one record adds, and with a list more
-- behind those that stand there. Assumes nothing.
use Prim.Native.Nat.{ℕ, ◌+◌, ◌≤◌, ◌<◌, min}
use native.Mathlib.Numerals.{add-one}
use native.Mathlib.Omega.{arith}
use mathlib.Core.Path.{◌≡◌, refl}
use mathlib.Core.Bool.{Bool, true, false}
use mathlib.Core.List.{List, [], ◌∷◌, ◌++◌, append-nil}
use lib.Dec.{leb}
use lib.ListN.{length, take, drop, set, length-append, length-take, length-drop, drop_of_length-le, take-append-drop}
use lib.Seq.{take_all, take-append-le, take-nil, take_at, take-take, drop-append-add, drop-drop, length-take-le, set_split, append_snoc}
use borrow.Author.Tests.{leb-true, leb-false}
use Rattle.zigbee_types.specs.Outcome.{answer, mapped, begun_length, begun, Begun}

-- n of a list begin the buffer
pub record Filled (xs before : List ℕ) (n : ℕ) (after : List ℕ) : Type 0 where
  pub told : n ≡ min (length before) (length xs)
  pub left : after ≡ take (length before) xs ++ drop (length xs) before

-- that is what a search owes, and what it says
module _ {xs before after : List ℕ} {n : ℕ} where
  pub filled_begun : Filled xs before n after → Begun (answer xs) before (answer n) after
  unfolding begun_length begun mapped
  filled_begun f = record { said = rw f.told; left = f.left }

  pub begun_filled : Begun (answer xs) before (answer n) after → Filled xs before n after
  unfolding begun_length begun mapped
  begun_filled b = record { told = let s = b.said in cc; left = b.left }

-- none
pub filled_none : (before : List ℕ) → Filled [] before 0 before
filled_none before = record { told = omega arith; left = rw take-nil }

-- ---- behind the first n of a buffer

module _ (before : List ℕ) (n : ℕ) (within : n ≤ length before) where
  -- nothing
  pub behind_none : Filled (take n before ++ []) before n before
  behind_none =
      let long : length (take n before) ≡ n = length-take-le n before within in
      record {
        told = rw (append-nil, long) (omega arith);
        left = rw (append-nil, long, take_all (length before) (take n before) (rw long within), take-append-drop);
      }

  -- a number for which there is no room
  pub behind_full : (x : ℕ) → n ≡ length before → Filled (take n before ++ (x ∷ [])) before n before
  behind_full x full =
      let all : take n before ≡ before = take_all n before (omega arith) in
      let none : drop (length (before ++ (x ∷ []))) before ≡ [] =
      drop_of_length-le before {i = length (before ++ (x ∷ []))} (rw length-append (omega arith)) in
      record {
        told = rw (all, length-append) (omega arith);
        left = rw (all, none, take_at before (x ∷ []) (length before) refl, append-nil);
      }

  -- a number
  pub behind_one : (x : ℕ) → n < length before → Filled (take n before ++ (x ∷ [])) before (n + 1) (set before n x)
  behind_one x room =
      let long : length (take n before ++ (x ∷ [])) ≡ n + 1 = rw (length-append, length-take-le n before within) in
      record {
        told = rw long (omega arith);
        left = rw (take_all (length before) (take n before ++ (x ∷ [])) (rw long (omega arith)), long, add-one, append_snoc) (set_split before n x room);
      }

-- ---- behind those of a list that begin it

module _ {xs before after : List ℕ} {n : ℕ} (f : Filled xs before n after) where
  pub filled_length : length after ≡ length before
  filled_length = rw (f.left, length-append, length-take, length-drop) (omega arith)

  -- they are within it
  pub filled_within : n ≤ length after
  filled_within = omega (arith, f.told, filled_length)

  module _ (ys : List ℕ) {m : ℕ} {later : List ℕ} (g : Filled (take n after ++ ys) after m later) where
    -- the list had room
    roomy : length xs ≤ length before → Filled (xs ++ ys) before m later
    roomy h =
        let whole : after ≡ xs ++ drop (length xs) before = rw (take_all (length before) xs h) at f.left in
        let here : take n after ≡ xs = rw whole (take_at xs (drop (length xs) before) n (omega (arith, f.told))) in
        let rest : drop (length xs + length ys) after ≡ drop (length xs + length ys) before =
        rw (whole, drop-append-add xs (drop (length xs) before) (length ys), drop-drop) in
        record {
          told = rw (here, filled_length) at g.told;
          left = rw (length-append, ← rest) (rw (here, filled_length, length-append) at g.left);
        }

    -- it had not
    crowded : length before ≤ length xs → Filled (xs ++ ys) before m later
    crowded h =
        let front : length (take (length before) xs) ≡ length before = length-take-le (length before) xs h in
        let none : drop (length xs) before ≡ [] = drop_of_length-le before h in
        let whole : after ≡ take (length before) xs = rw (none, append-nil) at f.left in
        let here : take n after ≡ take (length before) xs = rw whole (take_all n (take (length before) xs) (omega (arith, front, f.told))) in
        let still : drop (length (xs ++ ys)) before ≡ [] = drop_of_length-le before {i = length (xs ++ ys)} (rw length-append (omega arith)) in
        let gone : drop (length (take (length before) xs ++ ys)) after ≡ [] =
        drop_of_length-le after {i = length (take (length before) xs ++ ys)} (rw (length-append, front) (omega (arith, filled_length))) in
        let long : length (take (length before) xs ++ ys) ≡ length before + length ys = rw (length-append, front) in
        record {
          told = rw length-append (omega (arith, rw (here, filled_length, long) at g.told));
          left = rw (still, append-nil, take-append-le (length before) xs ys h) (rw (here, gone, append-nil, filled_length, take-append-le (length before) (take (length before) xs) ys (omega (arith, front)), take-take (length before) (length before) xs (omega arith)) at g.left);
        }

    -- with a list more, it is begun with both
    pub filled_more : Filled (xs ++ ys) before m later
    filled_more = go (leb (length xs) (length before)) refl
      where
        go : (t : Bool) → leb (length xs) (length before) ≡ t → Filled (xs ++ ys) before m later
        go true e = roomy (leb-true _ _ e)
        go false e = let more : length before < length xs = leb-false _ _ e in crowded (omega arith)
