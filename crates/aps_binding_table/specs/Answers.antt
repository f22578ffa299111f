-- What the answer to a bind or an unbind says: each of its cases, by document 01's numbers.
use Rattle.std.specs.Prelude.{ℕ, ⊤, Result, Ok, Err}
use Rattle.zigbee_types.specs.Outcome.{Outcome, answer, refusal}
use Rattle.zigbee_types.specs.Refusals.{refusal_number}
use Rattle.zigbee_types.specs.Statuses.{SUCCESS, NO_ENTRY, TABLE_FULL}
use Rattle.aps_binding_table.specs.declared.binding.BindingError.{BindingError}
use Rattle.aps_binding_table.specs.declared.binding.BindingError.TheVariants.{InvalidBinding, TableFull, Refused}

-- its status, or why it was refused. `InvalidBinding` is the Rust's name for an entry to remove that is not held.
unfoldable pub link_says : Result ⊤ BindingError → Outcome ℕ
link_says (Ok done) = answer SUCCESS
link_says (Err InvalidBinding) = answer NO_ENTRY
link_says (Err TableFull) = answer TABLE_FULL
link_says (Err (Refused why)) = refusal (refusal_number why)
