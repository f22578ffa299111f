-- The shape of the dispatcher's contract leaves one outcome, as a statement: any two that are permitted coincide. A term of it
-- stands in proofs/.
use Rattle.std.specs.Prelude.{ℕ, ◌≡◌, List}
use Rattle.zigbee_types.specs.Outcome.{Outcome}
use Rattle.aps_binding_table.specs.declared.binding.BindingTable.{BindingTable}
use Rattle.zdo_dispatcher.specs.Answers.{Answer, Told, Dispatched}

-- a request dispatched: what is told, the table and the buffer
abbrev pub OneDispatched : Type 0
OneDispatched =
    (o : Outcome Answer) (t : BindingTable) (before : List ℕ) (r s : Outcome Told) (u v : BindingTable) (after later : List ℕ)
    → Dispatched o t before r u after
    → Dispatched o t before s v later
    → (r ≡ s) × (u ≡ v) × (after ≡ later)
