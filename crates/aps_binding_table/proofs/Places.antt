-- What `placed` leaves where the entries are those held, one more, or one fewer. Assumes nothing.
use Prim.Native.Nat.{max, ◌+◌, ◌-◌, ◌≤◌}
use native.Mathlib.Omega.{arith}
use native.Mathlib.Numerals.{add-one}
use mathlib.Core.Path.{◌≡◌}
use mathlib.Core.List.{[], ◌∷◌, ◌++◌, append-nil}
use lib.ListN.{length, take, length-append, take-append-drop}
use lib.Seq.{length-take-le, set_split, append_snoc}
use Rattle.aps_binding_table.specs.Table.{held, placed}
use Rattle.aps_binding_table.specs.Places.{HeldStays, AddedStands, FreedZeros}

pub held_stays : HeldStays
unfolding held placed
held_stays t h =
    let n : length (take t.count t.entries) ≡ t.count = length-take-le t.count t.entries h in
    let none : t.count - t.count ≡ 0 = omega arith in
    let all : max t.count t.count ≡ t.count = omega arith in
    rw (n, none, all, append-nil, take-append-drop)

pub added_stands : AddedStands
unfolding held placed
added_stands t b h =
    let within : t.count ≤ length t.entries = omega arith in
    let n : length (take t.count t.entries ++ (b ∷ [])) ≡ t.count + 1 =
    rw (length-append, length-take-le t.count t.entries within) in
    let none : t.count - (t.count + 1) ≡ 0 = omega arith in
    let more : max t.count (t.count + 1) ≡ t.count + 1 = omega arith in
    rw (n, none, more, append-nil, append_snoc, set_split t.entries t.count b h, add-one)

pub freed_zeros : FreedZeros
unfolding placed
freed_zeros t xs e h =
    let one : t.count - length xs ≡ 1 = omega arith in
    let all : max t.count (length xs) ≡ t.count = omega arith in
    let n : length xs ≡ t.count - 1 = omega arith in
    rw (one, all, n)
