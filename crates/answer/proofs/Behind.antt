-- Answers that wait in a buffer: what is put behind them ends within it, and a turn takes a character. Assumes nothing.
use Rattle.std.specs.Prelude.{Result, Ok}
use Prim.Native.Nat.{ℕ, ◌+◌, ◌-◌, ◌^◌, ◌≤◌, ◌<◌}
use native.Mathlib.Omega.{arith}
use mathlib.Core.Path.{◌≡◌, refl}
use mathlib.Core.List.{List}
use lib.ListN.{length, drop}
use borrow.Author.Tests.{le-leb}
use borrow.Rule.Slice.PartMut.{mid_of, put_mid, mid_len, same_len_mid}
use mir.Syntax.{w64}
use mir.Val.{Fits}
use Rattle.zigbee_types.specs.declared.Refusal.{Refusal}
use Rattle.zigbee_types.specs.Answers.{says}
use Rattle.zigbee_types.specs.Outcome.{Outcome, answer, Wrote}
use Rattle.zigbee_types.proofs.Outcomes.{wrote_within}
use Rattle.aps_binding_table.specs.declared.binding.BindingTable.{BindingTable}
use Rattle.lines.specs.Splitter.{Pending}
use Rattle.lines.proofs.Taken.{split_takes}
use Rattle.answer_lines.specs.Turns.{taken_within, Turns}
use Rattle.answer_lines.specs.declared.session.Turn.{Turn}

-- what is written behind what waits, in all the room that there is
module _ (size end n : ℕ) (o : Outcome (List ℕ)) (out : List ℕ) {v : List ℕ} {told : Outcome ℕ} (is : length out ≡ size) (waits : end ≤ size) (wrote : Wrote o (mid_of end (size - end) out) told v) (tells : told ≡ answer n) where
  ends : end + n ≤ length out
  ends = omega (arith, is, waits, mid_len end size out (omega (arith, is)), (wrote_within o wrote).most n tells)

  pub put_fits : size < 2 ^ 64 → Fits w64 (end + n)
  put_fits short = record { fits = omega (arith, is, ends) }

  pub put_within : end + n ≤ length (put_mid end (size - end) out v)
  put_within = rw (same_len_mid end (size - end) out v (wrote_within o wrote).same) ends

-- what a writer told, where it was no refusal
pub told_ok : (w : Result ℕ Refusal) {n : ℕ} → w ≡ Ok n → says w ≡ answer n
unfolding says
told_ok w is = rw is refl

-- that is within the buffer
pub told_within :
    (o : Outcome (List ℕ)) {before after : List ℕ} (w : Result ℕ Refusal) {n : ℕ} → Wrote o before (says w) after → w ≡ Ok n → n ≤ length after
told_within o w {n} wrote is =
    let inside = wrote_within o wrote in
    rw inside.same (inside.most n (told_ok w is))

-- a turn that has room for every text takes a character, where there is one
pub turn_moves :
    (size at end : ℕ) (p : Pending) (chunk out : List ℕ) {t : BindingTable} {r : Turn} {line v : List ℕ}
    → length out ≡ size
    → end + 262 ≤ size
    → Turns (taken_within (length (mid_of end (size - end) out)) p (drop at chunk)) t at (mid_of end (size - end) out) r line v
    → at < length chunk
    → at < r.at
unfolding taken_within
turn_moves size at end p chunk out is room h more =
    let part = mid_len end size out (omega (arith, is)) in
    let moved = rw (le-leb 262 (length (mid_of end (size - end) out)) (omega (arith, room, part))) at h.moved in
    omega (arith, split_takes p chunk at more)
