-- What an answer or a refusal says determines it, as a statement: a contract about what it says leaves one answer. A term of it stands in
-- proofs/.
use Rattle.std.specs.Prelude.{ℕ, ◌≡◌, List, Result}
use Rattle.zigbee_types.specs.Outcome.{Outcome, Wrote, Begun}
use Rattle.zigbee_types.specs.Answers.{says}
use Rattle.zigbee_types.specs.declared.Refusal.{Refusal}
use Rattle.aps_binding_table.specs.Answers.{link_says}
use Rattle.aps_binding_table.specs.Held.{Step}
use Rattle.aps_binding_table.specs.Table.{Leaves}
use Rattle.aps_binding_table.specs.declared.binding.BindingTable.{BindingTable}
use Rattle.aps_binding_table.specs.declared.binding.Linked.{Linked}
use Rattle.zdo_matching.specs.Answers.{matching_says}
use Rattle.zdo_matching.specs.declared.descriptor.Matched.{Matched}
use Rattle.zdo_dispatcher.specs.Answers.{Answer, response_says, Dispatched}
use Rattle.zdo_dispatcher.specs.declared.dispatcher.Responded.{Responded}

-- what an answer says determines it
abbrev pub Determines : {A B : Type 0} → (A → B) → Type 0
Determines {A} says = (a b : A) → says a ≡ says b → a ≡ b

-- so a contract that gives what an answer says, as every parser's and reader's does, leaves one answer
abbrev pub OneSaid : Type 1
OneSaid = (A B : Type 0) (says : A → B) → Determines says → (o : B) (r s : A) → says r ≡ o → says s ≡ o → r ≡ s

-- What a public function answers or refuses is determined by what it says, whatever it answers with: a place, a descriptor, a request, a
-- reply; and so it is for a bind or an unbind, for matching, and for the dispatcher, which say it in their own words. (That of a read line
-- is in `OneLineRead`.) A writer's contract determines its answer and the buffer, and so does matching's; that of a bind or an unbind its
-- answer and its table; and the dispatcher's all three.
pub record OneAnswer : Type 1 where
  pub answers : (A : Type 0) → Determines (says {A = A})
  pub links : Determines link_says
  pub matching : Determines matching_says
  pub response : Determines response_says
  pub writer :
      (o : Outcome (List ℕ)) (before : List ℕ) (r s : Result ℕ Refusal) (after later : List ℕ)
      → Wrote o before (says r) after
      → Wrote o before (says s) later
      → (r ≡ s) × (after ≡ later)
  pub linker :
      (o : Outcome Step) (t : BindingTable) (r s : Linked)
      → Leaves o t (link_says r.status) r.table
      → Leaves o t (link_says s.status) s.table
      → r ≡ s
  pub matcher :
      (o : Outcome (List ℕ)) (before : List ℕ) (r s : Result Matched Refusal) (after later : List ℕ)
      → Begun o before (matching_says r) after
      → Begun o before (matching_says s) later
      → (r ≡ s) × (after ≡ later)
  pub dispatcher :
      (o : Outcome Answer) (t : BindingTable) (before : List ℕ) (r s : Responded) (after later : List ℕ)
      → Dispatched o t before (response_says r.response) r.table after
      → Dispatched o t before (response_says s.response) s.table later
      → (r ≡ s) × (after ≡ later)
