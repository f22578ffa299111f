-- Entries of a list that are put one behind the other, with their count before them or not: for a loop that puts one in each turn.
-- Each law is over the width of an entry. Assumes nothing.
use Prim.Native.Nat.{ℕ, ◌+◌, ◌*◌, ◌≤◌, ◌<◌}
use native.Mathlib.Nat.{mul-zero, mul-add, mul-one}
use native.Mathlib.Numerals.{add-one}
use native.Mathlib.Omega.{arith}
use mathlib.Core.Path.{◌≡◌, refl}
use mathlib.Core.List.{List, map, map-append}
use lib.ListN.{length, take, get_or}
use lib.Seq.{take-suc, take_all}
use Rattle.zigbee_types.specs.Bytes.{FieldPut}
use Rattle.zigbee_types.specs.Layout.{FieldsPut, entry, listed}
use Rattle.zigbee_types.proofs.Fields.{put_counted}
use Rattle.zigbee_types.proofs.Runs.{run_put_none, run_put_more, run_put_last}

-- the first i of some entries were put from a place on
pub record EntriesPut (w : ℕ) (xs : List ℕ) (i : ℕ) (s : List ℕ) (at n : ℕ) (t : List ℕ) : Type 0 where
  pub within : i ≤ length xs
  pub moved : n ≡ at + w * i
  pub same : length t ≡ length s
  pub put : FieldsPut (map (entry w) (take i xs)) s at n t

-- none, to begin with
pub entries_first : {w at : ℕ} {xs s : List ℕ} → EntriesPut w xs 0 s at at s
entries_first = record { within = omega arith; moved = rw mul-zero (omega arith); same = refl; put = run_put_none }

-- one more
pub entries_next :
    {w i at m n : ℕ} {xs s t u : List ℕ}
    → EntriesPut w xs i s at m t
    → i < length xs
    → FieldPut w (get_or xs i 0) t m n u
    → EntriesPut w xs (i + 1) s at n u
entries_next {i = i} {xs = xs} p h q =
    record {
      within = omega arith;
      moved = rw (mul-add, mul-one) (omega (arith, p.moved, q.moved));
      same = rw (put_counted q) p.same;
      put = rw (add-one, take-suc xs i 0, map-append) (run_put_last p.put q);
    }

-- all of them
pub entries_all :
    {w i at n : ℕ} {xs s t : List ℕ} → EntriesPut w xs i s at n t → length xs ≤ i → FieldsPut (map (entry w) xs) s at n t
entries_all {i = i} {xs = xs} p h = rw (take_all i xs) at p.put

-- all of them, behind their count
pub entries_end :
    {w i at m n : ℕ} {xs s t u : List ℕ}
    → FieldPut 1 (length xs) s at m t
    → EntriesPut w xs i t m n u
    → length xs ≤ i
    → FieldsPut (listed w xs) s at n u
unfolding listed
entries_end p q h = run_put_more p (entries_all q h)
