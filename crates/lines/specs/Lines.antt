-- Lines: a stream of bytes, cut at its line feeds (document 01, "Counter-cases", the program `answer`).
use Rattle.std.specs.Prelude.{ℕ, cond, List, [], ◌∷◌, map, eqb, leb, length}

-- what ends a line; nothing else does
abbrev pub LINE_FEED : ℕ
LINE_FEED = 10

-- a character in front of the first of some lines; where there are none, a line of its own
unfoldable pub begins : ℕ → List (List ℕ) → List (List ℕ)
begins c [] = (c ∷ []) ∷ []
begins c (line ∷ lines) = (c ∷ line) ∷ lines

-- the lines of a stream. A line feed ends a line and is no part of it; what stands behind the last one is a line if it has a
-- character.
unfoldable pub lines_of : List ℕ → List (List ℕ)
lines_of [] = []
lines_of (c ∷ rest) =
    let lines = lines_of rest in
    cond (eqb c LINE_FEED) ([] ∷ lines) (begins c lines)

-- a line as it is handed on: its characters, or only that they are too many
pub data Line : Type 0 where
  whole : List ℕ → Line
  overlong : Line

-- a line of at most so many characters is handed on whole
unfoldable pub line_within : ℕ → List ℕ → Line
line_within limit line = cond (leb (length line) limit) (whole line) overlong

-- the lines of a stream, those that are too long told apart
unfoldable pub lines_within : ℕ → List ℕ → List Line
lines_within limit stream = map (line_within limit) (lines_of stream)
