-- A line feed behind a text, and texts behind one another. Assumes nothing.
use Rattle.std.specs.Prelude.{Result, Ok, Err}
use Prim.Native.Nat.{ℕ, ◌+◌, ◌-◌, ◌^◌, ◌≤◌, ◌<◌}
use native.Mathlib.Numerals.{add-one}
use native.Mathlib.Omega.{arith}
use mathlib.Core.Path.{◌≡◌, refl, sym, ◌∙◌}
use mathlib.Core.List.{List, [], ◌∷◌, ◌++◌, append_assoc}
use lib.ListN.{length, drop, set, length-append}
use lib.Seq.{sets, set_at, drop-cons}
use mir.Syntax.{w64}
use mir.Val.{Fits}
use borrow.Author.Tests.{le-leb}
use borrow.Rule.Slice.PartMut.{mid_of, put_mid}
use Rattle.zigbee_types.specs.Answers.{says}
use Rattle.zigbee_types.specs.Outcome.{Outcome, answer, mapped, fitted, written, Wrote}
use Rattle.zigbee_types.specs.declared.Refusal.{Refusal}
use Rattle.zigbee_types.proofs.Fields.{sets_append}
use Rattle.zigbee_types.proofs.Outcomes.{refused, stored_front, wrote_stored, wrote_bytes, wrote_within}
use Rattle.zigbee_types.proofs.Parts.{part_told, part_stored}
use Rattle.lines.specs.Lines.{LINE_FEED}
use Rattle.answer_lines.specs.Session.{Inside, line_end, Ends}

-- ---- the code that puts it

module _ (w : Result ℕ Refusal) (out : List ℕ) (told : Inside (says w) out) where
  module _ {n : ℕ} (is : w ≡ Ok n) where
    -- there is a place for it
    pub end_place : n < length out
    unfolding says
    end_place =
        let same = rw is at told.said in
        let long : n ≡ told.long = cc in
        omega (arith, told.within)

    -- and the place behind it is a number that the machine has
    pub end_fits : length out < 2 ^ 64 → Fits w64 (n + 1)
    end_fits short = record { fits = omega (arith, end_place) }

    pub end_put : Ends (says w) out (answer (n + 1)) (set out n LINE_FEED)
    unfolding says line_end mapped
    end_put = rw is (record { said = refl; left = refl })

  -- a text that was written was not refused
  pub end_refused : {why : Refusal} → w ≡ Err why → Ends (says w) out (answer 0) out
  unfolding says
  end_refused is = absurd (refused (rw is at told.said))

-- ---- what it makes of a text

module _ (text : List ℕ) {before middle : List ℕ} {told : Outcome ℕ} (w : Wrote (answer text) before told middle) where
  -- a text that has room is told by its length, and stands at the front
  module _ (room : length text ≤ length before) where
    pub text_told : told ≡ answer (length text)
    unfolding mapped fitted
    text_told = rw (le-leb _ _ room) at w.said

    pub text_stands : middle ≡ text ++ drop (length text) before
    unfolding fitted written
    text_stands = rw (le-leb _ _ room) at w.left

  -- with a line feed it is one character longer
  pub text_ended :
      {more : Outcome ℕ} {after : List ℕ} → length text < length before → Ends told middle more after → Wrote (answer (text ++ (LINE_FEED ∷ []))) before more after
  unfolding mapped fitted written line_end
  text_ended {more} {after} h e =
      let room : length text ≤ length before = omega arith in
      let fits : length (text ++ (LINE_FEED ∷ [])) ≤ length before = rw length-append (omega arith) in
      record {
        said = rw (le-leb _ _ fits, e.said, text_told room, length-append);
        left =
            rw (le-leb _ _ fits, e.left, text_told room, text_stands room, drop-cons before (length text) 0 h, set_at text _ _ LINE_FEED (length text) refl, length-append, append_assoc, add-one);
      }

-- ---- a text behind another

-- of two texts, for which a buffer has room, the first was written to its front, and then the second behind it
module _ (text more : List ℕ) {before middle : List ℕ} {n : ℕ} (w : Wrote (answer text) before (answer n) middle) (room : length text + length more ≤ length before) where
  inside : n + length more ≤ length middle
  inside = omega (arith, (wrote_bytes w).long, (wrote_within _ w).same)

  module _ {told : Outcome ℕ} {v : List ℕ} (p : Wrote (answer more) (mid_of n (length middle - n) middle) told v) where
    -- it had room
    pub more_told : told ≡ answer (length more)
    more_told = part_told n middle more inside p

    -- and both are written
    pub both_written : {k : ℕ} → told ≡ answer k → Wrote (answer (text ++ more)) before (answer (n + k)) (put_mid n (length middle - n) middle v)
    both_written {k} is =
        let stands = wrote_bytes w in
        let (long, stored) = part_stored n middle more inside (rw is at p) in
        let front : middle ≡ sets before 0 text = stands.left ∙ sym (stored_front text before (omega arith)) in
        let behind : n ≡ 0 + length text = omega (arith, stands.long) in
        wrote_stored (text ++ more) (rw length-append (omega (arith, stands.long, long)))
        (stored ∙ (λ i. sets (front i) (behind i) more) ∙ sets_append before 0 text more)
        (rw length-append room)
