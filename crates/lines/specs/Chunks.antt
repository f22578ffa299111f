-- A stream that comes in chunks: what a splitter tells of it, and that these are its lines wherever the chunks end, as a statement. A
-- term of it stands in proofs/.
use Rattle.std.specs.Prelude.{ℕ, zero, suc, ◌+◌, ◌<◌, ◌≡◌, cond, List, [], ◌∷◌, ◌++◌, leb, length, take, drop}
use Rattle.lines.specs.Lines as lines
use Rattle.lines.specs.Splitter.{Pending, pending, split, last}
use Rattle.lines.specs.declared.splitter.Found.{Found}
use Rattle.lines.specs.declared.splitter.Found.TheVariants.{Line, Overlong, Nothing}

-- the line that was found, if one was; its characters stand at the front of the buffer
unfoldable pub found_line : Found → List ℕ → List lines.Line
found_line (Line n) buffer = lines.whole (take n buffer) ∷ []
found_line Overlong buffer = lines.overlong ∷ []
found_line Nothing buffer = []

-- what is left of an input: chunks, and the place in the first of them up to which it was read
pub record Unread : Type 0 where
  pub at : ℕ
  pub chunks : List (List ℕ)

-- what is left of a chunk that was read up to a place, and of those behind it; where it was read to its end, only those, from their start
unfoldable pub read_to : ℕ → List ℕ → List (List ℕ) → Unread
read_to at chunk chunks = cond (leb (length chunk) at) (record { at = 0; chunks = chunks }) (record { at = at; chunks = chunk ∷ chunks })

-- the lines told by a splitter that is fed chunks one after the other, the first from a place on, in at most so many turns: one turn
-- for what it takes from a chunk at once, and one for the end of the input
unfoldable pub run : ℕ → Pending → ℕ → List (List ℕ) → List lines.Line
run zero p at chunks = []
run (suc turns) p at [] = found_line (last p) p.buffer
run (suc turns) p at (chunk ∷ chunks) =
    let s = split p (drop at chunk) in
    let left = read_to (at + s.taken) chunk chunks in
    found_line s.found s.rest.buffer ++ run turns s.rest left.at left.chunks

-- the stream that chunks make
unfoldable pub joined : List (List ℕ) → List ℕ
joined [] = []
joined (chunk ∷ chunks) = chunk ++ joined chunks

-- fed any chunks, a splitter tells the lines of the stream that they make: a turn for each character and each chunk, and one more, are
-- enough
abbrev pub ChunksJoin : Type 0
ChunksJoin =
    (buffer : List ℕ) (chunks : List (List ℕ)) (turns : ℕ)
    → length (joined chunks) + length chunks < turns
    → run turns (pending 0 buffer) 0 chunks ≡ lines.lines_within (length buffer) (joined chunks)
