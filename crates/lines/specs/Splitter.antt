-- The splitter: fed a stream chunk by chunk, it tells each line at its end. The characters of a line that has begun stand at the front
-- of a lent buffer, and the buffer's length is the most that a line may have.
use Rattle.std.specs.Prelude.{ℕ, ◌+◌, ◌≡◌, cond, List, [], ◌∷◌, eqb, leb, length, set}
use Rattle.lines.specs.Lines.{LINE_FEED}
use Rattle.lines.specs.declared.splitter.Found.{Found}
use Rattle.lines.specs.declared.splitter.Found.TheVariants.{Line, Overlong, Nothing}
use Rattle.lines.specs.declared.splitter.Split.{Split}

-- a line that has begun: how many characters it has, and the buffer. A count above the buffer's length says that they are too many.
pub record Pending : Type 0 where
  pub count : ℕ
  pub buffer : List ℕ

-- the line that has begun in a buffer, with so many characters
abbrev pub pending : ℕ → List ℕ → Pending
pending count buffer = record { count = count; buffer = buffer }

-- with one character more, put behind the others where there is room; the count goes no further than one above the buffer's length
unfoldable pub grown : Pending → ℕ → Pending
grown p c = pending (cond (leb p.count (length p.buffer)) (p.count + 1) p.count) (set p.buffer p.count c)

-- the line that ends: so many characters at the front of the buffer, or too many
unfoldable pub ended : Pending → Found
ended p = cond (leb p.count (length p.buffer)) (Line p.count) Overlong

-- what is done with characters: the line that was found, the line that has begun then, and how many characters were taken
pub record Taken : Type 0 where
  pub found : Found
  pub rest : Pending
  pub taken : ℕ

-- with one character more that was taken
unfoldable pub later : Taken → Taken
later s = record { found = s.found; rest = s.rest; taken = s.taken + 1 }

-- characters are taken up to the first line feed, which ends the line; or all of them
unfoldable pub split : Pending → List ℕ → Taken
split p [] = record { found = Nothing; rest = p; taken = 0 }
split p (c ∷ chunk) =
    cond (eqb c LINE_FEED) (record { found = ended p; rest = pending 0 p.buffer; taken = 1 }) (later (split (grown p c) chunk))

-- the input ends: a last line without a line feed counts if it has a character
unfoldable pub last : Pending → Found
last p = cond (eqb p.count 0) Nothing (ended p)

-- a call that takes characters from a place of a chunk on: what it found, how many characters the line has that has begun, the place
-- behind those taken, and the buffer
pub record Splits (s : Taken) (at : ℕ) (r : Split) (after : List ℕ) : Type 0 where
  pub told : r.found ≡ s.found
  pub kept : r.splitter.count ≡ s.rest.count
  pub moved : r.at ≡ at + s.taken
  pub left : after ≡ s.rest.buffer
