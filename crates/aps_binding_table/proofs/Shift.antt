-- An entry is taken out of its place: those behind it move down by one, and the last place is freed. Assumes nothing.
use Prim.Native.Nat.{ℕ, ◌+◌, ◌-◌, ◌≤◌, ◌<◌}
use mathlib.Core.Path.{◌≡◌}
use mathlib.Core.List.{List, ◌∷◌, ◌++◌}
use native.Mathlib.Numerals.{add-one}
use native.Mathlib.Omega.{arith}
use lib.ListN.{length, get_or, set, take, drop, length-append, length-drop}
use lib.Seq.{paste, length_paste_head, length-take-le, take-take, take-add, drop_at, drop-cons, set_at, append_snoc}
use Rattle.std.specs.List.{copy_within}
use Rattle.zigbee_types.specs.Addresses.{group_of}
use Rattle.aps_binding.specs.Entry.{group_binding, zero_binding}
use Rattle.aps_binding_table.specs.Table.{held, placed}
use Rattle.aps_binding.specs.declared.binding.Binding.{Binding}
use Rattle.aps_binding_table.specs.declared.binding.BindingTable.{BindingTable}
use Rattle.aps_binding_table.proofs.Places.{freed_zeros}

-- ---- any list

module _ {A : Type 0} where
  -- xs without what stands at a place
  abbrev pub cut : ℕ → List A → List A
  cut at xs = take at xs ++ drop (at + 1) xs

  pub length_cut : (at : ℕ) (xs : List A) → at < length xs → length (cut at xs) + 1 ≡ length xs
  length_cut at xs h = rw (length-append, length-take-le at xs (omega arith), length-drop) (omega arith)

module _ {A : Type 0} (xs : List A) (at n i : ℕ) (is : at + n ≡ i) where
  -- the elements up to i, without the one at the place
  cut_is : i < length xs → take at xs ++ take n (drop (at + 1) xs) ≡ cut at (take (i + 1) xs)
  cut_is fits =
      let k : i + 1 ≡ at + 1 + n = omega arith in
      rw (take-take at (i + 1) xs (omega arith), k, take-add (at + 1) n xs, drop_at (take (at + 1) xs) (take n (drop (at + 1) xs)) (at + 1) (length-take-le (at + 1) xs (omega arith)))

  -- stand before i once the n elements behind the place moved down by one, and all behind i stays where another is put there
  pub moved_last : (a : A) → i < length xs → set (paste xs at (drop (at + 1) xs) n) i a ≡ cut at (take (i + 1) xs) ++ a ∷ drop (i + 1) xs
  moved_last a fits =
      let l : length (take at xs ++ take n (drop (at + 1) xs)) ≡ i =
      rw (length_paste_head xs at (drop (at + 1) xs) n (omega arith) (rw length-drop (omega arith))) is in
      rw (is, drop-cons xs i a fits, set_at (take at xs ++ take n (drop (at + 1) xs)) (get_or xs i a) _ a i l, cut_is fits, add-one i)

-- ---- the places of a table

-- the entries behind a place moved down by one, and the place of the last is freed
pub shifted :
    (t : BindingTable) (at : ℕ) {es : List Binding} {b : Binding}
    → at < t.count
    → t.count ≤ length t.entries
    → es ≡ copy_within t.entries (at + 1) t.count at
    → b ≡ group_binding 0 0 (group_of 0)
    → record { entries = set es (t.count - 1) b; limit = t.limit; count = t.count - 1 } ≡ placed t (cut at (held t))
unfolding held zero_binding
shifted t at h fits m e =
    let i : ℕ = t.count - 1 in
    let is : at + (t.count - (at + 1)) ≡ t.count - 1 = omega arith in
    let all : t.count - 1 + 1 ≡ t.count = omega arith in
    let n : length (take t.count t.entries) ≡ t.count = length-take-le t.count t.entries fits in
    let l : length (cut at (take t.count t.entries)) + 1 ≡ t.count = rw (length_cut at (take t.count t.entries) (omega arith)) n in
    rw (freed_zeros t (cut at (take t.count t.entries)) l fits, append_snoc, m, e, moved_last t.entries at (t.count - (at + 1)) (t.count - 1) is zero_binding (omega arith), all)
