-- Texts that are written: characters that are copied, and a refusal. Assumes nothing.
use Rattle.std.specs.Prelude.{Ok, Err}
use Prim.Native.Nat.{ℕ, ◌+◌, ◌≤◌, ◌<◌}
use native.Mathlib.Omega.{arith}
use mathlib.Core.Path.{◌≡◌, refl}
use mathlib.Core.List.{List, [], ◌∷◌, ◌++◌}
use lib.ListN.{length, drop, set}
use borrow.Author.Tests.{le-leb}
use mir.Syntax.{w8}
use mir.Val.{Fits}
use Rattle.zigbee_types.specs.Answers.{says}
use Rattle.zigbee_types.specs.Outcome.{Outcome, answer, mapped, fitted, written, Wrote}
use Rattle.zigbee_types.specs.Refusals.{refusal_number}
use Rattle.zigbee_types.specs.declared.Refusal.{Refusal}
use Rattle.zigbee_types.specs.declared.Refusal.TheVariants as refusal
use Rattle.zigbee_types.proofs.Outcomes.{wrote_stored, wrote_full}
use Rattle.decimal.proofs.Digits.{decimal_one}
use Rattle.answer_lines.specs.Session.{refusal_text}

-- ---- characters

-- there is no room for a text
pub text_full : (text before : List ℕ) → length before < length text → Wrote (answer text) before (says (Err refusal.ShortBuffer)) before
unfolding says
text_full text before h = wrote_full text before h

-- there is room for it, so its characters are put in place of as many in front
pub text_copied :
    (text before copied : List ℕ)
    → length text ≤ length before
    → copied ≡ text
    → Wrote (answer text) before (says (Ok (length text))) (copied ++ drop (length text) before)
unfolding says mapped fitted written
text_copied text before copied h is = record { said = rw (le-leb _ _ h); left = rw (le-leb _ _ h, is) }

-- ---- a refusal

-- its number has one digit
pub one_digit : (why : Refusal) → refusal_number why < 10
one_digit refusal.BadTables = omega arith
one_digit refusal.UnknownCluster = omega arith
one_digit refusal.Malformed = omega arith
one_digit refusal.TooManyClusters = omega arith
one_digit refusal.ShortBuffer = omega arith

-- so two characters are needed
pub refusal_full : (why : Refusal) (before : List ℕ) → length before < 2 → Wrote (answer (refusal_text (refusal_number why))) before (says (Err refusal.ShortBuffer)) before
refusal_full why before h = rw (decimal_one (refusal_number why) (one_digit why)) (text_full (82 ∷ (48 + refusal_number why) ∷ []) before h)

module _ (why : Refusal) {n : ℕ} (is : n ≡ refusal_number why) where
  -- the digit is a character
  pub refusal_fits : Fits w8 (48 + n)
  refusal_fits = let small = one_digit why in record { fits = omega arith }

  -- and `R` and this character are the text
  pub refusal_written :
      {before after : List ℕ} {told : Outcome ℕ}
      → Wrote (answer (82 ∷ (48 + n) ∷ [])) before told after
      → Wrote (answer (refusal_text (refusal_number why))) before told after
  refusal_written w = rw (decimal_one (refusal_number why) (one_digit why), ← is) w

  -- so it is written by two stores where there is room for both
  pub refusal_stored :
      (before : List ℕ) → 2 ≤ length before → Wrote (answer (refusal_text (refusal_number why))) before (says (Ok 2)) (set (set before 0 82) 1 (48 + n))
  unfolding says
  refusal_stored before h = refusal_written (wrote_stored (82 ∷ (48 + n) ∷ []) refl refl h)
