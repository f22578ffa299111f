-- What an answer says: document 01's value or the number of a refusal.
use Rattle.std.specs.Prelude.{Result, Ok, Err}
use Rattle.zigbee_types.specs.Outcome.{Outcome, answer, refusal}
use Rattle.zigbee_types.specs.Refusals.{refusal_number}
use Rattle.zigbee_types.specs.declared.Refusal.{Refusal}

-- an answer by its value, a refusal by its number
unfoldable pub says : {A : Type 0} → Result A Refusal → Outcome A
says (Ok a) = answer a
says (Err why) = refusal (refusal_number why)
