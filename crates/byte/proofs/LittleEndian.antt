-- The library's little-endian bytes and numbers are those of the fields, over their widths. Assumes nothing.
use Prim.Native.Nat.{ℕ, zero, suc, ◌+◌, ◌-◌, ◌*◌, ◌/◌, ◌%◌, ◌^◌, ◌≤◌, ◌<◌}
use native.Mathlib.Nat.{mul_comm, pow-succ', div-one, div-div-eq-div-mul}
use native.Mathlib.Omega.{arith}
use mathlib.Core.Path.{◌≡◌, refl, ap}
use mathlib.Core.List.{List, ◌∷◌, append_assoc}
use lib.ListN.{length, get_or}
use lib.Seq.{sets-eq}
use borrow.Rule.Slice.PartMut.{put_mid, Post-is}
use Rattle.std.specs.Int.{byte_worth, bytes_low_first, sum_through}
use Rattle.zigbee_types.specs.Bytes.{le, FieldRead, FieldPut}
use Rattle.zigbee_types.proofs.Numbers.{le_counted}
use Rattle.zigbee_types.proofs.Fields.{read_byte, read_both}

-- byte i of those at a place
abbrev pub byte_behind : List ℕ → ℕ → ℕ → ℕ
byte_behind s at zero = get_or s at 0
byte_behind s at (suc i) = get_or s (at + suc i) 0

-- the sum of k + 1 bytes at a place, each with its worth
abbrev pub worths : List ℕ → ℕ → ℕ → ℕ
worths s at = sum_through (λ i. byte_worth i (byte_behind s at i))

-- that sum is the number in a field of that width
worths_told : (k : ℕ) (s : List ℕ) (at : ℕ) → FieldRead (suc k) s at (worths s at k) (at + suc k)
worths_told zero s at = read_byte s at
worths_told (suc k) s at =
    let last = get_or s (at + suc k) 0 in
    let e : worths s at (suc k) ≡ worths s at k + 256 ^ suc k * last = rw (mul_comm (256 ^ suc k) last) in
    let wide : suc k + 1 ≡ suc (suc k) = omega arith in
    let both = read_both (suc k) 1 (worths_told k s at) (read_byte s (at + suc k)) e in
    record { told = rw wide at both.told; moved = omega arith }

-- so the number that the library makes of the bytes at a place is the number in a field there
pub bytes_read : (k : ℕ) (s : List ℕ) (at v : ℕ) → 0 < k → v ≡ worths s at (k - 1) → FieldRead k s at v (at + k)
bytes_read zero s at v h e = absurd (omega arith)
bytes_read (suc k) s at v h e = let one : suc k - 1 ≡ k = omega arith in rw (e, one) (worths_told k s at)

-- a number's bytes from byte j upward are those of what lies there
bytes_above : (k j x : ℕ) → bytes_low_first j k x ≡ le k (x / 256 ^ j)
unfolding le
bytes_above zero j x = refl
bytes_above (suc k) zero x = rw div-one (ap (λ (r : List ℕ). x % 256 ∷ r) (bytes_above k 1 x))
bytes_above (suc k) (suc j) x =
    rw (bytes_above k (suc (suc j)) x, div-div-eq-div-mul, mul_comm, ← pow-succ')

-- the bytes of a number that take the place of as many at a place are put there
pub bytes_put :
    (k x at : ℕ) (s t : List ℕ)
    → at + k ≤ length s
    → t ≡ bytes_low_first 0 k x
    → FieldPut k x s at (at + k) (put_mid at (at + k - at) s t)
bytes_put k x at s t room e =
    let new : bytes_low_first 0 k x ≡ le k x = rw (bytes_above k 0 x, div-one) in
    record {
      moved = refl;
      left = rw (e, new, Post-is at (at + k) s (omega arith), sets-eq (le k x) s at (rw le_counted room), le_counted, append_assoc);
    }
