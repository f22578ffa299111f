-- What holds of bytes, of numbers and of tables of fields, as statements. A term of each stands in proofs/.
use Rattle.std.specs.Prelude.{ℕ, ◌+◌, ◌*◌, ◌%◌, ◌^◌, ◌≤◌, ◌<◌, ◌≡◌, Bool, true, not, List, ◌++◌, map, ltb, eqb, length, get_or}
use Rattle.std.specs.Int.Bits.{bit_and}
use Rattle.zigbee_types.specs.Outcome.{answer}
use Rattle.zigbee_types.specs.Lists.{all}
use Rattle.zigbee_types.specs.Bytes.{le, number, bit_at, FieldRead, FieldPut}
use Rattle.zigbee_types.specs.Layout.{Field, laid, cut, size, fields_at, parsed, listed, counted, behind, entries_at, lists_in}
use Rattle.zigbee_types.specs.declared.Places.{Places}

-- is every number of a list a byte?
abbrev pub are_bytes : List ℕ → Bool
are_bytes = all (λ b. ltb b 256)

-- the widths of fields
abbrev pub widths : List Field → List ℕ
widths = map (λ f. f.width)

-- ---- numbers

-- k bytes of a number are k
abbrev pub BytesCounted : Type 0
BytesCounted = (k x : ℕ) → length (le k x) ≡ k

-- each of them is a byte
abbrev pub BytesBounded : Type 0
BytesBounded = (k x : ℕ) → are_bytes (le k x) ≡ true

-- bytes stand for a number that has no more bytes than they are
abbrev pub NumberBounded : Type 0
NumberBounded = (bytes : List ℕ) → are_bytes bytes ≡ true → number bytes < 256 ^ length bytes

-- a number that is written and read is what it was, cut to the width
abbrev pub NumberReadsBack : Type 0
NumberReadsBack = (k x : ℕ) → number (le k x) ≡ x % 256 ^ k

-- bytes that are read and written are what they were
abbrev pub BytesWriteBack : Type 0
BytesWriteBack = (bytes : List ℕ) → are_bytes bytes ≡ true → le (length bytes) (number bytes) ≡ bytes

-- ---- bits

-- a number masked by its bit i is not zero exactly if that bit is set
abbrev pub MaskTellsBit : Type 0
MaskTellsBit = (i x : ℕ) → not (eqb (bit_and x (2 ^ i)) 0) ≡ bit_at i x

-- ---- a buffer

-- what was put at a place with room for it reads back there, cut to its width, with the same place behind it
abbrev pub PutReadsBack : Type 0
PutReadsBack =
    (k x at next : ℕ) (before after : List ℕ)
    → at + k ≤ length before
    → FieldPut k x before at next after
    → FieldRead k after at (x % 256 ^ k) next

-- ---- tables of fields

-- what is laid is as long as its widths say
abbrev pub LaidCounted : Type 0
LaidCounted = (fs : List Field) → length (laid fs) ≡ size (widths fs)

-- what is laid reads back cut to its widths, at any place and whatever stands around it
abbrev pub LaidReadsBack : Type 0
LaidReadsBack =
    (front rest : List ℕ) (fs : List Field) → fields_at (widths fs) (front ++ laid fs ++ rest) (length front) ≡ map cut fs

-- so a parser that goes by these widths answers with the cut values, whatever stands behind
abbrev pub LaidParses : Type 1
LaidParses =
    (A : Type 0) (make : (ℕ → ℕ) → A) (fs : List Field) (rest : List ℕ)
    → parsed (widths fs) make (laid fs ++ rest) ≡ answer (make (λ i. get_or (map cut fs) i 0))

-- ---- lists in a frame

-- entries, each cut to w bytes
abbrev pub entries_cut : ℕ → List ℕ → List ℕ
entries_cut w = map (λ x. x % 256 ^ w)

-- where a list of n entries stands whose count is the byte at a place
abbrev pub places_at : ℕ → ℕ → Places
places_at at n = record { start = at + 1; count = n }

-- the list xs is read at a place: where its entries stand, what they are, and the place behind them
pub record ListAt (w : ℕ) (bytes : List ℕ) (at : ℕ) (xs : List ℕ) : Type 0 where
  pub place : counted bytes at ≡ places_at at (length xs)
  pub entries : entries_at w bytes (places_at at (length xs)) ≡ entries_cut w xs
  pub next : behind w (counted bytes at) ≡ at + 1 + w * length xs

-- a list of at most 255 entries reads back with its entries cut, at any place and whatever stands around it
abbrev pub CountedReadsBack : Type 0
CountedReadsBack =
    (front rest : List ℕ) (w : ℕ) (xs : List ℕ)
    → length xs < 256
    → ListAt w (front ++ laid (listed w xs) ++ rest) (length front) xs

-- two lists of clusters are read, the first at a place, the second behind it: where they stand, and the clusters of each
pub record ListsAt (bytes : List ℕ) (at : ℕ) (inputs outputs : List ℕ) : Type 0 where
  pub places :
      lists_in bytes at
      ≡ answer
      (record {
        input_clusters = places_at at (length inputs);
        output_clusters = places_at (at + 1 + 2 * length inputs) (length outputs);
      })
  pub first : entries_at 2 bytes (places_at at (length inputs)) ≡ entries_cut 2 inputs
  pub second : entries_at 2 bytes (places_at (at + 1 + 2 * length inputs) (length outputs)) ≡ entries_cut 2 outputs

-- two lists of clusters of at most 255 each, one behind the other, read back with their clusters cut
abbrev pub ListsReadBack : Type 0
ListsReadBack =
    (front inputs outputs rest : List ℕ)
    → length inputs < 256
    → length outputs < 256
    → ListsAt (front ++ laid (listed 2 inputs) ++ laid (listed 2 outputs) ++ rest) (length front) inputs outputs
