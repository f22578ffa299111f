-- What equals one thing is one: a line is read with one outcome. Assumes nothing.
use Rattle.std.specs.Prelude.{Result, Ok, Err}
use mathlib.Core.Path.{◌≡◌, refl, sym, ◌∙◌}
use Rattle.zigbee_types.specs.Answers.{says}
use Rattle.zigbee_types.specs.declared.Refusal.{Refusal}
use Rattle.zigbee_types.proofs.OneOutcome.{determined, refused_back}
use Rattle.hex_lines.specs.OneOutcome.{OneLineRead}

-- an answer is determined by what it says
one_answer : {A : Type 0} (r s : Result A Refusal) → says r ≡ says s → r ≡ s
unfolding says
one_answer = determined says Ok Err (elim [ Ok a ↦ refl | Err why ↦ refused_back Err why ])

pub one_line : OneLineRead
one_line o before r s after later p q = (one_answer r s (p.said ∙ sym q.said), p.left ∙ sym q.left)
