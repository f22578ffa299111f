-- Parts of bytes: one between two places, and the later part of a buffer, from a place on, lent to a writer, where what it writes is
-- put at that place. Assumes nothing.
use Prim.Native.Nat.{ℕ, ◌+◌, ◌-◌, ◌≤◌}
use native.Mathlib.Omega.{arith}
use mathlib.Core.Path.{◌≡◌}
use mathlib.Core.List.{List, [], append-nil, append_assoc}
use lib.ListN.{length, take, drop, length-drop, drop_of_length-le}
use lib.Seq.{sets, sets-eq, take_all, drop-drop}
use borrow.Author.Tests.{le-leb}
use borrow.Rule.Slice.PartMut.{mid_of, put_mid}
use Rattle.zigbee_types.specs.Lists.{part}
use Rattle.zigbee_types.specs.Outcome.{Outcome, answer, mapped, fitted, Wrote}
use Rattle.zigbee_types.specs.Layout.{Field, laid, FieldsPut}
use Rattle.zigbee_types.proofs.Outcomes.{wrote_bytes}

-- a part that ends n behind its start has n elements
pub part_is : {A : Type 0} (xs : List A) (start end n : ℕ) → end ≡ start + n → take (end - start) (drop start xs) ≡ part start n xs
part_is xs start end n e = let long : end - start ≡ n = omega arith in rw long

module _ (m : ℕ) (t : List ℕ) where
  -- the part runs to the end
  pub part_whole : mid_of m (length t - m) t ≡ drop m t
  part_whole = take_all (length t - m) (drop m t) (rw length-drop (omega arith))

  -- so there is nothing behind it
  part_last : drop (length t - m) (drop m t) ≡ []
  part_last = drop_of_length-le (drop m t) {i = length t - m} (rw length-drop (omega arith))

  module _ {v : List ℕ} where
    -- a writer that has room there tells its length
    pub part_told :
        (bytes : List ℕ) {r : Outcome ℕ} → m + length bytes ≤ length t → Wrote (answer bytes) (mid_of m (length t - m) t) r v → r ≡ answer (length bytes)
    unfolding mapped fitted
    part_told bytes h w =
        let room : length bytes ≤ length (drop m t) = rw length-drop (omega arith) in
        rw (part_whole, le-leb _ _ room) at w.said

    -- and what it writes is stored in the whole buffer
    pub part_stored :
        (bytes : List ℕ) {n : ℕ}
        → m + length bytes ≤ length t
        → Wrote (answer bytes) (mid_of m (length t - m) t) (answer n) v
        → (n ≡ length bytes) × (put_mid m (length t - m) t v ≡ sets t m bytes)
    part_stored bytes h w =
        let stands = wrote_bytes w in
        (stands.long, rw (part_last, append-nil, stands.left, part_whole, drop-drop, sets-eq bytes t m h, append_assoc))

    -- so are its fields
    pub part_put :
        (fs : List Field) {n : ℕ}
        → m + length (laid fs) ≤ length t
        → Wrote (answer (laid fs)) (mid_of m (length t - m) t) (answer n) v
        → FieldsPut fs t m (m + n) (put_mid m (length t - m) t v)
    part_put fs h w =
        let (long, stored) = part_stored (laid fs) h w in
        record { moved = rw long; left = stored }
