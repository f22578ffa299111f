-- The end of the input: the number of bindings behind its word, its line feed, and both behind the answer to the last line. Assumes
-- nothing.
use Rattle.std.specs.Prelude.{Result, Ok, Err}
use Rattle.std.specs.Result.{result_unwrap_or}
use Prim.Native.Nat.{ℕ, ◌+◌, ◌-◌, ◌^◌, ◌≤◌, ◌<◌}
use native.Mathlib.Omega.{arith}
use mathlib.Core.Path.{◌≡◌, refl, sym, ◌∙◌}
use mathlib.Core.List.{List}
use lib.ListN.{length, take, drop, set, length-append}
use lib.Seq.{take_at, length-take-le}
use borrow.Rule.Slice.PartMut.{mid_of, put_mid, mid_len}
use mir.Syntax.{w64}
use mir.Val.{Fits}
use Rattle.zigbee_types.specs.Answers.{says}
use Rattle.zigbee_types.specs.Outcome.{Outcome, answer, mapped, Wrote}
use Rattle.zigbee_types.specs.declared.Refusal.{Refusal}
use Rattle.zigbee_types.proofs.Outcomes.{refused, wrote_bytes, wrote_within}
use Rattle.aps_binding_table.specs.declared.binding.BindingTable.{BindingTable}
use Rattle.lines.specs.Lines.{LINE_FEED, Line}
use Rattle.decimal.specs.Decimal.{decimal}
use Rattle.decimal.proofs.Digits.{length_below}
use Rattle.our_device.specs.OurDevice.{ours}
use Rattle.answer_lines.specs.Session.{BINDINGS, count_text, closing, spoken, session, line_end, Tells}
use Rattle.answer_lines.proofs.Ends.{text_told, text_ended, more_told, both_written}

-- a number of the machine has at most 20 digits
digits_few : (n : ℕ) → n < 2 ^ 64 → length (decimal n) ≤ 20
digits_few n h = length_below 19 n (omega arith)

-- ---- the number behind its word

module _ (n : ℕ) (small : n < 2 ^ 64) (d : Result ℕ Refusal) {before middle v : List ℕ} {told : Outcome ℕ} (room : 30 ≤ length before) (w : Wrote (answer BINDINGS) before told middle) (p : Wrote (answer (decimal n)) (mid_of 9 (length middle - 9) middle) (says d) v) where
  word : Wrote (answer BINDINGS) before (answer 9) middle
  word = rw (text_told BINDINGS w (omega arith)) at w

  both : 9 + length (decimal n) ≤ length before
  both = omega (arith, digits_few n small)

  told_digits : says d ≡ answer (length (decimal n))
  told_digits = more_told BINDINGS (decimal n) word both p

  -- so they are not refused, and their number is told
  digits_told : (d : Result ℕ Refusal) → says d ≡ answer (length (decimal n)) → d ≡ Ok (length (decimal n))
  unfolding says
  digits_told (Ok k) told = let long : k ≡ length (decimal n) = cc in rw long
  digits_told (Err why) told = absurd (refused told)

  module _ {k : ℕ} (is : k ≡ result_unwrap_or d 0) where
    long : k ≡ length (decimal n)
    long = is ∙ rw (digits_told d told_digits)

    -- the length of both is a number of the machine
    pub count_fits : Fits w64 (9 + k)
    count_fits = record { fits = omega (arith, digits_few n small, long) }

    pub count_written : Wrote (answer (count_text n)) before (answer (9 + k)) (put_mid 9 (length middle - 9) middle v)
    unfolding count_text
    count_written = both_written BINDINGS (decimal n) word both p (rw long told_digits)

  -- the digits are not refused
  pub count_refused : {why : Refusal} → d ≡ Err why → Wrote (answer (count_text n)) before (answer 9) (put_mid 9 (length middle - 9) middle v)
  unfolding count_text says
  count_refused is = absurd (refused (rw is at told_digits))

-- ---- its line feed

module _ (count : ℕ) (small : count < 2 ^ 64) where
  count_few : length (count_text count) < 30
  unfolding count_text
  count_few = rw length-append (omega (arith, digits_few count small))

  module _ {out middle : List ℕ} {end : ℕ} (room : 30 ≤ length out) (w : Wrote (answer (count_text count)) out (answer end) middle) where
    -- there is a place for it
    pub closing_place : end < length middle
    closing_place = omega (arith, count_few, (wrote_bytes w).long, (wrote_within _ w).same)

    -- and the place behind it is a number of the machine
    pub closing_fits : Fits w64 (end + 1)
    closing_fits = record { fits = omega (arith, count_few, (wrote_bytes w).long) }

    pub closing_written : Wrote (answer (closing count)) out (answer (end + 1)) (set middle end LINE_FEED)
    unfolding closing mapped line_end
    closing_written = text_ended (count_text count) w (omega (arith, count_few)) (record { said = refl; left = refl })

-- ---- behind the last line

module _ (t : BindingTable) (lines : List Line) {out middle : List ℕ} {u : BindingTable} {n : ℕ} (room : 292 ≤ length out) (h : Tells (spoken ours t lines) 262 out (answer n) u middle) where
  few : n ≤ 262
  few = omega (arith, h.short, (wrote_bytes h.wrote).long)

  same : length middle ≡ length out
  same = (wrote_within _ h.wrote).same

  pub last_start : n ≤ length middle
  last_start = omega (arith, few, same)

  part : length (mid_of n (length middle - n) middle) ≡ length middle - n
  part = mid_len n (length middle) middle (omega arith)

  -- there is room for the number
  pub last_room : 30 ≤ length (mid_of n (length middle - n) middle)
  last_room = omega (arith, few, part, same)

  -- whatever is written behind the answer, both lie within the buffer
  module _ {o : Outcome (List ℕ)} {k : ℕ} {v : List ℕ} (p : Wrote o (mid_of n (length middle - n) middle) (answer k) v) where
    both_room : n + k ≤ length out
    both_room = omega (arith, part, (wrote_within o p).most k refl, few, same)

    pub last_fits : length out < 2 ^ 64 → Fits w64 (n + k)
    last_fits short = record { fits = omega (arith, both_room) }

  pub last_written :
      {k : ℕ} {v : List ℕ}
      → Wrote (answer (closing u.count)) (mid_of n (length middle - n) middle) (answer k) v
      → Wrote (answer (session ours t lines)) out (answer (n + k)) (put_mid n (length middle - n) middle v)
  unfolding session
  last_written p =
      let behind = rw h.table at p in
      both_written (spoken ours t lines).text (closing (spoken ours t lines).table.count) h.wrote
      (omega (arith, both_room p, (wrote_bytes h.wrote).long, (wrote_bytes behind).long)) behind refl

-- ---- from one buffer to another

module _ (bytes : List ℕ) {before after : List ℕ} {n : ℕ} (w : Wrote (answer bytes) before (answer n) after) where
  pub copy_within : n ≤ length after
  copy_within = omega (arith, (wrote_within _ w).same, (wrote_within _ w).most n refl)

  pub copy_long : n ≡ length (take n after)
  copy_long = sym (length-take-le n after copy_within)

  pub copy_written : {out later : List ℕ} {told : Outcome ℕ} → Wrote (answer (take n after)) out told later → Wrote (answer bytes) out told later
  copy_written p =
      let stands = wrote_bytes w in
      rw (stands.long, stands.left, take_at bytes (drop (length bytes) before) (length bytes) refl) at p
