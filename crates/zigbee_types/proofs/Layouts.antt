-- Tables of fields: what is laid has the length of its widths, reads back cut to them, and parses; and so do lists with a count.
-- Assumes nothing.
use Prim.Native.Nat.{ℕ, ◌+◌, ◌*◌, ◌≤◌}
use native.Mathlib.Nat.{mod-eq_of_lt}
use native.Mathlib.Omega.{arith}
use mathlib.Core.Path.{◌≡◌, refl, ap}
use mathlib.Core.List.{List, [], ◌∷◌, ◌++◌, map, map-map, append_assoc}
use lib.ListN.{length, get_or, replicate, length-append}
use borrow.Author.Tests.{le-leb}
use Rattle.zigbee_types.specs.Outcome.{answer, needing}
use Rattle.zigbee_types.specs.Bytes.{le, number_at}
use Rattle.zigbee_types.specs.Layout.{Field, laid, cut, size, fields_at, parsed, entry, listed, counted, behind, entries_at, lists_in}
use Rattle.zigbee_types.specs.FieldLaws.{widths, ListAt, LaidCounted, LaidReadsBack, LaidParses, CountedReadsBack, ListsReadBack}
use Rattle.zigbee_types.proofs.Numbers.{le_counted}
use Rattle.zigbee_types.proofs.Fields.{number_at_back}

pub laid_counted : LaidCounted
unfolding laid size
laid_counted [] = refl
laid_counted (f ∷ fs) = rw (length-append, le_counted, laid_counted fs)

pub laid_back : LaidReadsBack
unfolding laid cut fields_at
laid_back front rest [] = refl
laid_back front rest (f ∷ fs) =
    let here : List ℕ = le f.width f.value in
    let bytes : List ℕ = front ++ here ++ laid fs ++ rest in
    let behind : length (front ++ here) ≡ length front + f.width = rw (length-append, le_counted) in
    let first : number_at f.width bytes (length front) ≡ cut f =
    rw (append_assoc (front ++ here)) (number_at_back front (laid fs ++ rest) f.width f.value (length front) refl) in
    let others : fields_at (widths fs) bytes (length front + f.width) ≡ map cut fs =
    rw behind at (laid_back (front ++ here) rest fs) in
    rw (← append_assoc front, first, others)

pub laid_parses : LaidParses
unfolding parsed needing
laid_parses A make fs rest =
    let room : size (widths fs) ≤ length (laid fs ++ rest) = rw length-append (omega (arith, laid_counted fs)) in
    rw (le-leb _ _ room) (ap (λ (values : List ℕ). answer (make (λ i. get_or values i 0))) (laid_back [] rest fs))

-- so does a parser that has these widths by a name of its own
pub parses :
    {A : Type 0} (ws : List ℕ) (make : (ℕ → ℕ) → A) (fs : List Field) (rest : List ℕ)
    → widths fs ≡ ws
    → parsed ws make (laid fs ++ rest) ≡ answer (make (λ i. get_or (map cut fs) i 0))
parses ws make fs rest e = rw (← e) (laid_parses _ make fs rest)

-- ---- lists with a count

-- entries of w bytes have w for each width
widths_entries : (w : ℕ) (xs : List ℕ) → widths (map (entry w) xs) ≡ replicate (length xs) w
widths_entries w [] = refl
widths_entries w (x ∷ xs) = rw (widths_entries w xs)

-- and take w bytes each
pub size_entries : (w : ℕ) (xs : List ℕ) → size (widths (map (entry w) xs)) ≡ w * length xs
unfolding size
size_entries w [] = omega arith
size_entries w (x ∷ xs) = omega (arith, size_entries w xs)

-- so a list takes a byte for its count, and those
pub length_listed : (w : ℕ) (xs : List ℕ) → length (laid (listed w xs)) ≡ 1 + w * length xs
unfolding size listed
length_listed w xs = rw laid_counted (omega (arith, size_entries w xs))

pub counted_back : CountedReadsBack
unfolding fields_at cut listed counted behind entries_at
counted_back front rest w xs h =
    let bytes : List ℕ = front ++ laid (listed w xs) ++ rest in
    let there = laid_back front rest (listed w xs) in
    let count : number_at 1 bytes (length front) ≡ length xs = cc (there, mod-eq_of_lt h) in
    let entries : fields_at (widths (map (entry w) xs)) bytes (length front + 1) ≡ map cut (map (entry w) xs) = cc there in
    record {
      place = rw count;
      entries = rw (← widths_entries w xs, entries) (map-map cut (entry w) xs);
      next = rw count;
    }

pub lists_back : ListsReadBack
unfolding lists_in needing behind
lists_back front inputs outputs rest h k =
    let a : List ℕ = laid (listed 2 inputs) in
    let b : List ℕ = laid (listed 2 outputs) in
    let at : ℕ = length front + 1 + 2 * length inputs in
    let long : length (front ++ a) ≡ at = rw (length-append, length_listed) (omega arith) in
    let first : ListAt 2 (front ++ a ++ b ++ rest) (length front) inputs =
    rw (append_assoc (front ++ a)) (counted_back front (b ++ rest) 2 inputs h) in
    let second : ListAt 2 (front ++ a ++ b ++ rest) at outputs = rw long at (counted_back (front ++ a) rest 2 outputs k) in
    let room : at + 1 + 2 * length outputs ≤ length (front ++ a ++ b ++ rest) =
    rw (length-append, length-append (front ++ a), long, length_listed) (omega arith) in
    record {
      places = rw (first.next, second.next, le-leb _ _ room, first.place, second.place);
      first = first.entries;
      second = second.entries;
    }
