-- What a `?` comes to: the refusal that it met is handed on, whatever was to come after it; an answer is what comes after it goes by.
-- Assumes nothing.
use Prim.Native.Nat.{ℕ}
use mathlib.Core.Path.{◌≡◌, refl}
use mathlib.Core.List.{List}
use Rattle.std.specs.Prelude.{Result, Ok, Err}
use Rattle.std.specs.Result.{IsErr, IsErrAnd}
use Rattle.std.proofs.lemmas.Result.{err_from_is_err_and}
use Rattle.zigbee_types.specs.Outcome.{Outcome, and_then, mapped, fitted, written, Wrote}
use Rattle.zigbee_types.specs.Answers.{says}
use Rattle.zigbee_types.specs.declared.Refusal.{Refusal}

-- the refusal is handed on as it is
pub passed : {B : Type 0} (r : Result B Refusal) (why : Refusal) → IsErr r × IsErrAnd r (λ e. e ≡ why) → r ≡ Err why
passed r why p = let q = err_from_is_err_and r p.1 in rw (q.1, q.2) refl

module _
    {A B : Type 0}
    {o : Outcome A}
    (r : Result B Refusal)
    (why : Refusal)
    (said : says {A = A} (Err why) ≡ o)
    (p : IsErr r × IsErrAnd r (λ e. e ≡ why)) where
  -- through what is made of an answer
  pub passed_mapped : (f : A → B) → says r ≡ mapped f o
  unfolding says mapped
  passed_mapped f = rw (passed r why p, ← said) refl

  -- and through what comes after one
  pub passed_then : (next : A → Outcome B) → says r ≡ and_then o next
  unfolding says and_then
  passed_then next = rw (passed r why p, ← said) refl

-- a writer that hands it on has written nothing
pub passed_wrote :
    {A : Type 0} {o : Outcome A} (r : Result ℕ Refusal) (why : Refusal) (next : A → Outcome (List ℕ)) (before : List ℕ)
    → says {A = A} (Err why) ≡ o
    → IsErr r × IsErrAnd r (λ e. e ≡ why)
    → Wrote (and_then o next) before (says r) before
unfolding says and_then mapped fitted written
passed_wrote r why next before said p = rw (passed r why p, ← said) (record { said = refl; left = refl })

-- and one that met an answer has written what comes after that
pub went_on :
    {A : Type 0} {o : Outcome A} {told : Outcome ℕ} (a : A) (next : A → Outcome (List ℕ)) (before after : List ℕ)
    → says (Ok a) ≡ o
    → Wrote (next a) before told after
    → Wrote (and_then o next) before told after
unfolding says and_then
went_on a next before after said w = rw (← said) w
