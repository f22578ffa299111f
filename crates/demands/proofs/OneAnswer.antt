-- Each answer or refusal comes back from what it says. Assumes nothing.
use Rattle.std.specs.Prelude.{Result, Ok, Err, ⊤}
use Prim.Native.Nat.{ℕ}
use mathlib.Core.Path.{refl, sym, ◌∙◌}
use mathlib.Core.Bool.{cond}
use lib.Dec.{eqb}
use Rattle.zigbee_types.specs.Outcome.{mapped}
use Rattle.zigbee_types.specs.Statuses.{SUCCESS, NO_ENTRY}
use Rattle.zigbee_types.specs.Answers.{says}
use Rattle.zigbee_types.proofs.OneOutcome.{determined, refused_back, one_wrote, one_begun}
use Rattle.aps_binding_table.specs.Answers.{link_says}
use Rattle.aps_binding_table.specs.declared.binding.BindingError.{BindingError}
use Rattle.aps_binding_table.specs.declared.binding.BindingError.TheVariants as error
use Rattle.zdo_matching.specs.Answers.{matching_says}
use Rattle.zdo_dispatcher.specs.Answers.{Told, replied, leaving, response_says}
use Rattle.zdo_dispatcher.specs.declared.dispatcher.Response.{Response}
use Rattle.zdo_dispatcher.specs.declared.dispatcher.Response.TheVariants as response
use Rattle.zdo_dispatcher.proofs.OneDispatched.{one_dispatched}
use Rattle.demands.specs.OneAnswer.{Determines, OneSaid, OneAnswer}

-- whatever is answered
one_says : (A : Type 0) → Determines (says {A = A})
unfolding says
one_says A = determined says Ok Err (elim [ Ok a ↦ refl | Err why ↦ refused_back Err why ])

-- the answer that tells a status
abbrev link_of : ℕ → Result ⊤ BindingError
link_of status = cond (eqb status SUCCESS) (Ok tt) (Err (cond (eqb status NO_ENTRY) error.InvalidBinding error.TableFull))

one_link : Determines link_says
unfolding link_says
one_link =
    determined _ link_of (λ why. Err (error.Refused why))
    (elim [
      | Ok tt ↦ refl
      | Err error.InvalidBinding ↦ refl
      | Err error.TableFull ↦ refl
      | Err (error.Refused why) ↦ refused_back (λ why. Err (error.Refused why)) why
    ])

one_matching : Determines matching_says
unfolding matching_says mapped says
one_matching =
    determined _ (λ n. Ok (record { written = n })) Err
    (elim [ Ok m ↦ refl | Err why ↦ refused_back Err why ])

-- the answer that tells a reply or a leave
abbrev response_of : Told → Response
response_of (replied cluster n) = response.Reply cluster n
response_of (leaving q) = response.Leave q

one_response : Determines response_says
unfolding response_says
one_response =
    determined _ (λ told. Ok (response_of told)) Err
    (elim [ Ok (response.Reply cluster n) ↦ refl | Ok (response.Leave q) ↦ refl | Err why ↦ refused_back Err why ])

pub one_said : OneSaid
one_said A B says determines o r s p q = determines r s (p ∙ sym q)

pub one_answer : OneAnswer
one_answer =
    record {
      answers = one_says;
      links = one_link;
      matching = one_matching;
      response = one_response;
      writer = λ o before r s after later p q. let (told, left) = one_wrote o before _ _ after later p q in (one_says ℕ r s told, left);
      linker =
          λ o t r s p q.
          let told = one_link r.status s.status (p.said ∙ sym q.said) in
          let left = p.left ∙ sym q.left in
          λ i. record { table = left i; status = told i };
      matcher = λ o before r s after later p q. let (told, left) = one_begun o before _ _ after later p q in (one_matching r s told, left);
      dispatcher =
          λ o t before r s after later p q.
          let (told, table, left) = one_dispatched o t before _ _ _ _ after later p q in
          let response = one_response r.response s.response told in
          (λ i. record { table = table i; response = response i }, left);
    }
