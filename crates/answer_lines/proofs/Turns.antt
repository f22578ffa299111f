-- A turn, and the turns of the program: what it writes turn by turn is what it writes for the whole input. Assumes nothing.
use Prim.Native.Nat.{ℕ, zero, suc, ◌+◌, ◌≤◌, ◌<◌}
use native.Mathlib.Omega.{arith}
use mathlib.Core.Path.{◌≡◌, refl, sym, ap, ◌∙◌}
use mathlib.Core.List.{List, [], ◌∷◌, ◌++◌, append_assoc}
use lib.ListN.{length, take, drop}
use borrow.Author.Tests.{le-leb, lt-leb}
use Rattle.zigbee_types.specs.Outcome.{Outcome, answer, Wrote}
use Rattle.aps_binding_table.specs.Table.{empty_table}
use Rattle.aps_binding_table.specs.declared.binding.BindingTable.{BindingTable}
use Rattle.zdo_discovery.specs.Host.{Host}
use Rattle.lines.specs.Lines.{LINE_FEED, Line}
use Rattle.lines.specs.Splitter.{Pending, pending, split, last, Splits}
use Rattle.lines.specs.Chunks.{found_line, read_to, run}
use Rattle.lines.specs.declared.splitter.Found.{Found}
use Rattle.lines.specs.declared.splitter.Split.{Split}
use Rattle.lines.specs.declared.splitter.Splitter.{Splitter}
use Rattle.lines.proofs.Chunks.{chunks_join}
use Rattle.our_device.specs.OurDevice.{ours}
use Rattle.answer_lines.specs.Session.{LIMIT_NUMBER, TEXT_NUMBER, Tells, said, spoken, session, answers}
use Rattle.answer_lines.specs.declared.session.Session.{Session}
use Rattle.answer_lines.proofs.Closing.{copy_written}
use Rattle.answer_lines.proofs.Found.{nothing_written}
use Rattle.answer_lines.specs.Turns.{new_session, said_for, taken_within, Turns, ending, in_turns, AnswersJoin}

-- ---- before the first turn

-- an empty table and a splitter with no line are a session
pub session_new :
    {t : BindingTable} {s : Splitter}
    → t ≡ empty_table LIMIT_NUMBER
    → s ≡ record { count = 0 }
    → record { table = t; splitter = s } ≡ new_session
session_new empty none i = record { table = empty i; splitter = none i }

-- ---- a turn

module _ (p : Session) (chunk : List ℕ) (at : ℕ) (line : List ℕ) {out : List ℕ} where
  -- without room
  pub turn_none :
      length out < 262
      → Turns (taken_within (length out) (pending p.splitter.count line) (drop at chunk)) p.table at out (record { session = p; at = at; length = 0 }) line out
  unfolding taken_within said_for found_line spoken
  turn_none h = rw (lt-leb 262 (length out) h) (record { wrote = nothing_written; table = refl; kept = refl; moved = omega arith; left = refl })

  -- with room
  pub turn_made :
      {r : Split} {u : BindingTable} {n : ℕ} {taken after : List ℕ}
      → 262 ≤ length out
      → Splits (split (pending p.splitter.count line) (drop at chunk)) at r taken
      → Tells (spoken ours p.table (found_line r.found taken)) 262 out (answer n) u after
      → Turns (taken_within (length out) (pending p.splitter.count line) (drop at chunk)) p.table at out
      (record { session = record { table = u; splitter = r.splitter }; at = r.at; length = n }) taken after
  unfolding taken_within said_for
  turn_made room s h =
      let same = rw (s.told, s.left) at h in
      rw (le-leb 262 (length out) room) (record { wrote = same.wrote; table = same.table; kept = s.kept; moved = s.moved; left = s.left })

-- the last one: the text is copied from one buffer to another
pub turn_last :
    (count : ℕ) (line : List ℕ) (t : BindingTable) {found : Found} {before after out later : List ℕ} {n : ℕ} {told : Outcome ℕ}
    → found ≡ last (pending count line)
    → Wrote (answer (session ours t (found_line found line))) before (answer n) after
    → Wrote (answer (take n after)) out told later
    → Wrote (answer (ending (pending count line) t)) out told later
unfolding ending
turn_last count line t is w copied = copy_written _ (rw is at w) copied

-- ---- all turns

-- lines, and more lines from the table that they leave
in_parts :
    (h : Host) (t : BindingTable) (lines more : List Line)
    → session h t (lines ++ more) ≡ (spoken h t lines).text ++ session h (spoken h t lines).table more
unfolding session spoken
in_parts h t [] more = refl
in_parts h t (line ∷ lines) more =
    let s = said h t line in
    append_assoc s.text _ _
    ∙ ap (λ rest. s.text ++ (LINE_FEED ∷ rest)) (in_parts h s.table lines more)
    ∙ sym (append_assoc s.text _ _)

-- so turn by turn the lines that the splitter tells are answered
by_turns :
    (turns : ℕ) (room : ℕ → ℕ) (p : Pending) (t : BindingTable) (at : ℕ) (chunks : List (List ℕ))
    → ((turn : ℕ) → TEXT_NUMBER ≤ room turn)
    → in_turns turns room p t at chunks ≡ session ours t (run turns p at chunks)
unfolding in_turns run taken_within said_for ending
by_turns zero room p t at chunks h = refl
by_turns (suc turns) room p t at [] h = refl
by_turns (suc turns) room p t at (chunk ∷ chunks) h =
    let taken = split p (drop at chunk) in
    let found = found_line taken.found taken.rest.buffer in
    let left = read_to (at + taken.taken) chunk chunks in
    rw (
      le-leb TEXT_NUMBER (room turns) (h turns),
      in_parts ours t found (run turns taken.rest left.at left.chunks),
      by_turns turns room taken.rest (spoken ours t found).table left.at left.chunks h,
    )

pub answers_join : AnswersJoin
unfolding answers
answers_join buffer chunks turns room long enough h =
    rw (by_turns turns room (pending 0 buffer) _ 0 chunks enough, chunks_join buffer chunks turns h, long)
