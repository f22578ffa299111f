-- The program reads its input in chunks of any length, and works in turns. What it writes turn by turn is what it writes for the whole
-- input, as a statement. A term of it stands in proofs/.
use Rattle.std.specs.Prelude.{ℕ, zero, suc, ◌+◌, ◌≤◌, ◌<◌, ◌≡◌, cond, List, [], ◌∷◌, ◌++◌, leb, length, drop}
use Rattle.zigbee_types.specs.Outcome.{answer, Wrote}
use Rattle.aps_binding_table.specs.Table.{empty_table}
use Rattle.aps_binding_table.specs.declared.binding.BindingTable.{BindingTable}
use Rattle.lines.specs.Splitter.{Pending, pending, Taken, split, last}
use Rattle.lines.specs.Chunks.{found_line, read_to, joined}
use Rattle.lines.specs.declared.splitter.Found.TheVariants.{Nothing}
use Rattle.our_device.specs.OurDevice.{ours}
use Rattle.answer_lines.specs.Session.{LINE_NUMBER, LIMIT_NUMBER, TEXT_NUMBER, Said, spoken, session, answers}
use Rattle.answer_lines.specs.declared.session.Session.{Session}
use Rattle.answer_lines.specs.declared.session.Turn.{Turn}

-- before the first turn: no binding, and no line that has begun
abbrev pub new_session : Session
new_session = record { table = empty_table LIMIT_NUMBER; splitter = record { count = 0 } }

-- ---- one turn

-- what is said for what a splitter took
unfoldable pub said_for : BindingTable → Taken → Said
said_for t taken = spoken ours t (found_line taken.found taken.rest.buffer)

-- what is taken of a chunk, with so much room for the answer: nothing, where there is not room for every text
unfoldable pub taken_within : ℕ → Pending → List ℕ → Taken
taken_within room p chunk = cond (leb TEXT_NUMBER room) (split p chunk) (record { found = Nothing; rest = p; taken = 0 })

-- a turn in which that was taken from a place on: the text is written and its length told; the table and the line that has begun, after
-- it; and the place behind what was taken
pub record Turns (taken : Taken) (t : BindingTable) (at : ℕ) (before : List ℕ) (r : Turn) (line after : List ℕ) : Type 0 where
  pub wrote : Wrote (answer (said_for t taken).text) before (answer r.length) after
  pub table : r.session.table ≡ (said_for t taken).table
  pub kept : r.session.splitter.count ≡ taken.rest.count
  pub moved : r.at ≡ at + taken.taken
  pub left : line ≡ taken.rest.buffer

-- the last turn, the end of the input: what is written for the line that has begun, if it has a character, and then at the end
unfoldable pub ending : Pending → BindingTable → List ℕ
ending p t = session ours t (found_line (last p) p.buffer)

-- ---- all turns

-- what is written in at most so many turns, with a line that has begun and a binding table, for chunks, the first from a place on. `room`
-- gives the room of each turn, by how many turns are left after it. (The last turn is said for a buffer that has room for all of it;
-- `Session::end` refuses a shorter one. Where no turn is left it ends there.)
unfoldable pub in_turns : ℕ → (ℕ → ℕ) → Pending → BindingTable → ℕ → List (List ℕ) → List ℕ
in_turns zero room p t at chunks = session ours t []
in_turns (suc turns) room p t at [] = ending p t
in_turns (suc turns) room p t at (chunk ∷ chunks) =
    let taken = taken_within (room turns) p (drop at chunk) in
    let said = said_for t taken in
    let left = read_to (at + taken.taken) chunk chunks in
    said.text ++ in_turns turns room taken.rest said.table left.at left.chunks

-- whatever the chunks, with a buffer for the longest line and room for every text in each turn: a turn for each character and each
-- chunk, and one more, are enough
abbrev pub AnswersJoin : Type 0
AnswersJoin =
    (buffer : List ℕ) (chunks : List (List ℕ)) (turns : ℕ) (room : ℕ → ℕ)
    → length buffer ≡ LINE_NUMBER
    → ((turn : ℕ) → TEXT_NUMBER ≤ room turn)
    → length (joined chunks) + length chunks < turns
    → in_turns turns room (pending new_session.splitter.count buffer) new_session.table 0 chunks ≡ answers (joined chunks)
