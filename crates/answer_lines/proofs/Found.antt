-- What the splitter found, answered: the texts are short enough, and a line is written with its end. Assumes nothing.
use Prim.Native.Nat.{ℕ, ◌≤◌, ◌<◌}
use native.Mathlib.Omega.{arith}
use mathlib.Core.Path.{◌≡◌, refl}
use mathlib.Core.List.{List, [], ◌∷◌, ◌++◌}
use lib.ListN.{length, take, length-append, length-take, length-drop}
use borrow.Author.Tests.{le-leb}
use Rattle.zigbee_types.specs.Outcome.{Outcome, answer, mapped, fitted, written, Wrote}
use Rattle.aps_binding_table.specs.declared.binding.BindingTable.{BindingTable}
use Rattle.lines.specs.Chunks.{found_line}
use Rattle.lines.specs.Lines.{LINE_FEED, whole}
use Rattle.lines.specs.declared.splitter.Found.{Found}
use Rattle.lines.specs.declared.splitter.Found.TheVariants.{Line, Overlong, Nothing}
use Rattle.our_device.specs.OurDevice.{ours}
use Rattle.answer_lines.specs.Session.{QUESTION, Inside, Said, unheard, said, spoken, Tells, Ends}
use Rattle.answer_lines.proofs.Ends.{text_told, text_stands, text_ended}

-- the front of a line's buffer is not too long
pub front_short : (n : ℕ) (line : List ℕ) {chars : List ℕ} → chars ≡ take n line → length line ≡ 4096 → length chars ≤ 4096
front_short n line is long = rw (is, length-take) (omega arith)

-- nothing is written
pub nothing_written : {before : List ℕ} → Wrote (answer []) before (answer 0) before
unfolding mapped fitted written
nothing_written {before} =
    let fits : 0 ≤ length before = omega arith in
    record { said = rw (le-leb 0 (length before) fits); left = rw (le-leb 0 (length before) fits) }

-- ---- a text and its line feed, in a buffer with room for any text

module _ (s : Said) {out middle : List ℕ} {told : Outcome ℕ} {u : BindingTable} (room : 262 ≤ length out) (h : Tells s 261 out told u middle) where
  fits : length s.text ≤ length out
  fits = omega (arith, h.short)

  -- there is a place for it
  pub text_place : Inside told middle
  text_place =
      let inside : length s.text < length middle = rw (text_stands s.text h.wrote fits, length-append, length-drop) (omega (arith, h.short)) in
      record { long = length s.text; said = text_told s.text h.wrote fits; within = inside }

  -- and both are written
  with_end : {n : ℕ} {after : List ℕ} → Ends told middle (answer n) after → Tells (record { text = s.text ++ (LINE_FEED ∷ []); table = s.table }) 262 out (answer n) u after
  with_end e =
      record {
        wrote = text_ended s.text h.wrote (omega (arith, h.short)) e;
        table = h.table;
        short = rw length-append (omega (arith, h.short));
      }

-- a line that is too long is no request
question : {t : BindingTable} {out middle : List ℕ} {told : Outcome ℕ} → Wrote (answer QUESTION) out told middle → Tells (unheard t) 261 out told t middle
unfolding unheard
question w = record { wrote = w; table = refl; short = omega arith }

pub question_place :
    {out middle : List ℕ} {told : Outcome ℕ} → BindingTable → 262 ≤ length out → Wrote (answer QUESTION) out told middle → Inside told middle
question_place t room w = text_place (unheard t) room (question w)

-- ---- what was found

module _ (t : BindingTable) (found : Found) (line : List ℕ) {out : List ℕ} where
  -- no line has ended
  pub found_none : found ≡ Nothing → Tells (spoken ours t (found_line found line)) 262 out (answer 0) t out
  unfolding found_line spoken
  found_none is = rw is (record { wrote = nothing_written; table = refl; short = omega arith })

  module _ {middle after : List ℕ} {told : Outcome ℕ} {n : ℕ} (room : 262 ≤ length out) (e : Ends told middle (answer n) after) where
    -- one that is too long
    pub found_long : found ≡ Overlong → Wrote (answer QUESTION) out told middle → Tells (spoken ours t (found_line found line)) 262 out (answer n) t after
    unfolding found_line spoken said
    found_long is w = rw is (with_end (unheard t) room (question w) e)

    -- one that is not
    pub found_line_lem :
        {count : ℕ} {chars : List ℕ} {u : BindingTable}
        → found ≡ Line count
        → chars ≡ take count line
        → Tells (said ours t (whole chars)) 261 out told u middle
        → Tells (spoken ours t (found_line found line)) 262 out (answer n) u after
    unfolding found_line spoken
    found_line_lem is front h = rw (is, ← front) (with_end (said ours t (whole _)) room h e)
