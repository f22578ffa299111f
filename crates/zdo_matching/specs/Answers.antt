-- What an answer of matching says: how many numbers it wrote, or document 01's number of the refusal.
use Rattle.std.specs.Prelude.{ℕ, Result}
use Rattle.zigbee_types.specs.declared.Refusal.{Refusal}
use Rattle.zigbee_types.specs.Outcome.{Outcome, mapped}
use Rattle.zigbee_types.specs.Answers.{says}
use Rattle.zdo_matching.specs.declared.descriptor.Matched.{Matched}

unfoldable pub matching_says : Result Matched Refusal → Outcome ℕ
matching_says r = mapped (λ m. m.written) (says r)
