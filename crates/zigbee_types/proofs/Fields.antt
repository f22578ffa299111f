-- Fields that are read and put: one byte, and two fields that stand one behind the other, over their widths. Assumes nothing.
use Prim.Native.Nat.{ℕ, suc, ◌+◌, ◌*◌, ◌/◌, ◌%◌, ◌^◌, ◌≤◌, ◌<◌}
use native.Mathlib.Nat.{add-zero, add-suc, suc-add, mod-eq_of_lt}
use native.Mathlib.Omega.{arith}
use mathlib.Core.Path.{◌≡◌, refl, sym}
use mathlib.Core.List.{List, [], ◌∷◌, ◌++◌, append_assoc}
use lib.ListN.{length, take, drop, get_or, set, drop_of_length-le}
use lib.Seq.{sets, length-sets, sets-eq, drop-drop, get_or-drop, take-nil, take_at, drop_at, length-take-le}
use Rattle.zigbee_types.specs.Bytes.{le, number, number_at, FieldRead, FieldPut}
use Rattle.zigbee_types.specs.FieldLaws.{PutReadsBack}
use Rattle.zigbee_types.proofs.Numbers.{le_counted, le_split, le_cut, number_split, number_back}

-- ---- reading

-- one byte of a list is its first element, and 0 where it has none
byte_at : (l : List ℕ) → get_or l 0 0 ≡ number (take 1 l)
unfolding number
byte_at [] = refl
byte_at (b ∷ bs) = omega arith

-- the number in j + k bytes: that in the first j, and in its place that in the k behind them
pub number_at_split :
    (j k : ℕ) (s : List ℕ) (at : ℕ) → number_at (j + k) s at ≡ number_at j s at + 256 ^ j * number_at k s (at + j)
unfolding number_at
number_at_split j k s at = rw (← drop-drop) (number_split j k (drop at s))

-- bytes past the end count as zeros
pub number_at_past : (k : ℕ) (s : List ℕ) (at : ℕ) → length s ≤ at → number_at k s at ≡ 0
unfolding number_at number
number_at_past k s at h = rw (drop_of_length-le s h, take-nil)

-- the number at a place behind n bytes
pub number_at_drop : (k n : ℕ) (s : List ℕ) (at : ℕ) → number_at k (drop n s) at ≡ number_at k s (n + at)
unfolding number_at
number_at_drop k n s at = rw drop-drop

-- the element at a place is the byte there
pub read_byte : (s : List ℕ) (at : ℕ) → FieldRead 1 s at (get_or s at 0) (at + 1)
unfolding number_at
read_byte s at = record { told = rw (← byte_at (drop at s), get_or-drop, add-zero); moved = refl }

-- a field of j bytes and one of k behind it are a field of j + k bytes, the first its low part
pub read_both :
    (j k : ℕ) {s : List ℕ} {at m n a b v : ℕ}
    → FieldRead j s at a m
    → FieldRead k s m b n
    → v ≡ a + 256 ^ j * b
    → FieldRead (j + k) s at v n
read_both j k p q e =
    record {
      told = rw (e, p.told, q.told, p.moved, number_at_split);
      moved = omega (arith, p.moved, q.moved);
    }

-- what is written somewhere reads back there, cut to its width
pub number_at_back :
    (front back : List ℕ) (k x at : ℕ) → length front ≡ at → number_at k (front ++ le k x ++ back) at ≡ x % 256 ^ k
unfolding number_at
number_at_back front back k x at e =
    rw (append_assoc, drop_at front (le k x ++ back) at e, take_at (le k x) back k (le_counted k x)) (number_back k x)

-- ---- putting

-- stores of a, and stores of b behind them, are the stores of a ++ b
pub sets_append : (s : List ℕ) (at : ℕ) (a b : List ℕ) → sets (sets s at a) (at + length a) b ≡ sets s at (a ++ b)
sets_append s at [] b = rw add-zero
sets_append s at (x ∷ a) b = rw (add-suc, ← suc-add) (sets_append (set s at x) (suc at) a b)

-- so stores behind k bytes of a number are stores of those bytes and of what is behind
pub sets_behind : (s : List ℕ) (at k x : ℕ) (b : List ℕ) → sets (sets s at (le k x)) (at + k) b ≡ sets s at (le k x ++ b)
sets_behind s at k x b = rw (le_counted k x) at (sets_append s at (le k x) b)

-- what was put leaves the length as it was
pub put_counted : {k x at n : ℕ} {s t : List ℕ} → FieldPut k x s at n t → length t ≡ length s
put_counted {k} {x} {at} {n} {s} p = rw p.left (length-sets s at (le k x))

-- a byte that is stored at a place is put there
pub put_byte : (s : List ℕ) (at : ℕ) {x : ℕ} → x < 256 → FieldPut 1 x s at (at + 1) (set s at x)
unfolding le
put_byte s at h = record { moved = refl; left = rw (mod-eq_of_lt h) }

-- the low j bytes of x, and behind them the k bytes above, are its j + k bytes
pub put_both :
    (j k x : ℕ) {at m n : ℕ} {s t u : List ℕ}
    → FieldPut j (x % 256 ^ j) s at m t
    → FieldPut k (x / 256 ^ j) t m n u
    → FieldPut (j + k) x s at n u
put_both j k x p q =
    record {
      moved = omega (arith, p.moved, q.moved);
      left = rw (q.left, p.left, p.moved, le_cut, le_split, sets_behind);
    }

-- what was put reads back
pub put_back : PutReadsBack
put_back k x at next before after h p =
    let room : at + length (le k x) ≤ length before = rw le_counted h in
    let long : length (take at before) ≡ at = length-take-le at before (omega arith) in
    let there : number_at k (sets before at (le k x)) at ≡ x % 256 ^ k =
    rw (sets-eq (le k x) before at room) (number_at_back (take at before) (drop (at + length (le k x)) before) k x at long) in
    record { told = rw p.left (sym there); moved = p.moved }
