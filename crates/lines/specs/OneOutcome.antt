-- The shape of a splitter's contract leaves one outcome, as a statement: any two that are permitted coincide. A term of it stands in
-- proofs/.
use Rattle.std.specs.Prelude.{ℕ, ◌≡◌, List}
use Rattle.lines.specs.Splitter.{Taken, Splits}
use Rattle.lines.specs.declared.splitter.Split.{Split}

-- characters taken: what is told, and the buffer
abbrev pub OneSplit : Type 0
OneSplit = (s : Taken) (at : ℕ) (r q : Split) (after later : List ℕ) → Splits s at r after → Splits s at q later → (r ≡ q) × (after ≡ later)
