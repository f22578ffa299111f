-- The shape of a turn's contract leaves one outcome, as a statement: any two that are permitted coincide. A term of it stands in
-- proofs/.
use Rattle.std.specs.Prelude.{ℕ, ◌≡◌, List}
use Rattle.aps_binding_table.specs.declared.binding.BindingTable.{BindingTable}
use Rattle.lines.specs.Splitter.{Taken}
use Rattle.answer_lines.specs.Turns.{Turns}
use Rattle.answer_lines.specs.declared.session.Turn.{Turn}

-- a turn: what is told, with the session after it, and both buffers
abbrev pub OneTurn : Type 0
OneTurn =
    (taken : Taken) (t : BindingTable) (at : ℕ) (before : List ℕ) (r s : Turn) (line other after later : List ℕ)
    → Turns taken t at before r line after
    → Turns taken t at before s other later
    → (r ≡ s) × (line ≡ other) × (after ≡ later)
