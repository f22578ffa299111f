-- The union of sources, by its bits. Assumes nothing.
use Prim.Native.Nat.{ℕ, ◌+◌, ◌%◌, ◌≤◌, ◌<◌}
use native.Mathlib.Numerals.{add-one}
use native.Mathlib.Omega.{arith}
use mathlib.Core.Path.{◌≡◌, refl}
use mathlib.Core.Bool.{and-or_distrib_left}
use mathlib.Core.List.{List, [], ◌∷◌, ◌++◌}
use lib.Bits.{bit_or}
use lib.ListN.{length, take, get_or}
use lib.Seq.{take-suc, take_all}
use Rattle.zigbee_types.specs.Bytes.{bit, bit_at}
use Rattle.zigbee_types.specs.Lists.{any}
use Rattle.zigbee_types.proofs.Bits.{low_bits, same_bits, or_bits}
use Rattle.zigbee_types.proofs.Elements.{any_last}
use Rattle.power_names.specs.Names.{source_bitmap}
use Rattle.power_names.specs.Union.{BitmapUnion}
use Rattle.power_names.proofs.Gathered.{gathered, gathered_bits}

-- it is its four bits
bitmap_gathered : (xs : List ℕ) → source_bitmap xs ≡ gathered 4 (λ i. any (bit_at i) xs)
unfolding source_bitmap gathered
bitmap_gathered xs = omega arith

pub bitmap_union : BitmapUnion
bitmap_union i xs = rw bitmap_gathered (gathered_bits 4 i (λ j. any (bit_at j) xs))

-- one more source
bitmap_last : (xs : List ℕ) (x : ℕ) → bit_or (source_bitmap xs) (x % 16) ≡ source_bitmap (xs ++ (x ∷ []))
bitmap_last xs x =
    same_bits
    (bit_or (source_bitmap xs) (x % 16))
    (source_bitmap (xs ++ (x ∷ [])))
    (λ i. rw (or_bits, bitmap_union i xs, bitmap_union i (xs ++ (x ∷ [])), low_bits 4 i x, any_last, and-or_distrib_left))

-- the union of the first i sources of a list
pub record Gathering (xs : List ℕ) (i bits : ℕ) : Type 0 where
  pub union : bits ≡ source_bitmap (take i xs)

-- of none
pub gathering_first : {xs : List ℕ} → Gathering xs 0 0
unfolding source_bitmap any bit
gathering_first = record { union = refl }

-- of one more
pub gathering_next :
    {xs : List ℕ} {i bits n : ℕ} → Gathering xs i bits → n ≡ get_or xs i 0 % 16 → i < length xs → Gathering xs (i + 1) (bit_or bits n)
gathering_next {xs} {i} g e h = record { union = rw (g.union, e, add-one, take-suc xs i 0 h) (bitmap_last (take i xs) (get_or xs i 0)) }

-- of all
pub gathering_end : {xs : List ℕ} {i bits : ℕ} → Gathering xs i bits → length xs ≤ i → bits ≡ source_bitmap xs
gathering_end {xs} {i} g h = rw (take_all i xs h) at g.union
