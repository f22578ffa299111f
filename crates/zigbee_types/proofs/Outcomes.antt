-- Outcomes: a test that is made before an answer, bytes that a writer stored or had no room for, and what it says that a writer told a
-- length. Assumes nothing.
use Prim.Native.Nat.{ℕ, ◌+◌, ◌≤◌, ◌<◌}
use native.Mathlib.Omega.{arith}
use mathlib.Core.Path.{◌≡◌, refl, sym}
use mathlib.Core.Bool.{Bool, true, false, cond}
use mathlib.Core.List.{List, ◌++◌}
use lib.Dec.{leb}
use lib.ListN.{length, drop, length-append, length-drop}
use lib.Seq.{sets, sets-eq}
use borrow.Author.Tests.{leb-true, le-leb, lt-leb}
use Rattle.zigbee_types.specs.Outcome.{Outcome, answer, refusal, and_then, mapped, needing, fitted, written, Wrote}

-- ---- a test

-- no refusal is an answer
pub refused : {A : Type 0} {a : A} {n : ℕ} → refusal n ≡ answer a → ⊥
refused e = let z : ◌≡◌ {A = ℕ} 0 1 = cc in omega arith

-- where a test that fails would refuse, an answer says that it held, and is what was to be answered
pub granted : {A : Type 0} (t : Bool) (o : Outcome A) (n : ℕ) {a : A} → cond t o (refusal n) ≡ answer a → (t ≡ true) × (o ≡ answer a)
granted true o n e = (refl, e)
granted false o n e = absurd (refused e)

-- seen through f, it is still that test and that refusal
pub mapped_granted :
    {A B : Type 0} (f : A → B) (t : Bool) (a : A) (n : ℕ) → mapped f (cond t (answer a) (refusal n)) ≡ cond t (answer (f a)) (refusal n)
unfolding mapped
mapped_granted f true a n = refl
mapped_granted f false a n = refl

-- an answer that needs bytes: they are there, and it is what was to be answered
pub held : {A : Type 0} (n : ℕ) (bytes : List ℕ) (a : A) {r : A} → needing n bytes a ≡ answer r → (n ≤ length bytes) × (answer a ≡ answer r)
unfolding needing
held n bytes a e = let (t, same) = granted (leb n (length bytes)) (answer a) 3 e in (leb-true n (length bytes) t, same)

-- an answer of what came next followed an answer
pub answered :
    {A B : Type 0} (o : Outcome A) (next : A → Outcome B) {b : B} → and_then o next ≡ answer b → (a : A) × (o ≡ answer a) × (next a ≡ answer b)
unfolding and_then
answered (answer a) next e = (a, refl, e)
answered (refusal n) next e = absurd (refused e)

-- ---- writers

-- a refusal is told, and leaves the buffer as it was
pub wrote_refused : (n : ℕ) (before : List ℕ) → Wrote (refusal n) before (refusal n) before
unfolding mapped fitted written
wrote_refused n before = record { said = refl; left = refl }

-- bytes that are stored from the front of a buffer on, where there is room for them, stand there before what stood behind them
pub stored_front : (bytes before : List ℕ) → length bytes ≤ length before → sets before 0 bytes ≡ bytes ++ drop (length bytes) before
stored_front bytes before room =
    let front : 0 + length bytes ≡ length bytes = omega arith in
    rw front at (sets-eq bytes before 0 (omega arith))

-- so they are written
pub wrote_stored :
    (bytes : List ℕ) {before after : List ℕ} {told : ℕ}
    → told ≡ length bytes
    → after ≡ sets before 0 bytes
    → length bytes ≤ length before
    → Wrote (answer bytes) before (answer told) after
unfolding mapped fitted written
wrote_stored bytes {before} long left room =
    record { said = rw (le-leb _ _ room, long); left = rw (le-leb _ _ room, left) (stored_front bytes before room) }

-- and refused where there is none
pub wrote_full : (bytes before : List ℕ) → length before < length bytes → Wrote (answer bytes) before (refusal 5) before
unfolding mapped fitted written
wrote_full bytes before full = record { said = rw (lt-leb _ _ full); left = rw (lt-leb _ _ full) }

-- bytes stand at the front of a buffer, before what stood behind them, and their length is told
pub record Stands (bytes before : List ℕ) (told : ℕ) (after : List ℕ) : Type 0 where
  pub long : told ≡ length bytes
  pub left : after ≡ bytes ++ drop (length bytes) before

-- so do the bytes of an answer for which a length was told
pub wrote_bytes : {bytes before after : List ℕ} {told : ℕ} → Wrote (answer bytes) before (answer told) after → Stands bytes before told after
unfolding mapped fitted written
wrote_bytes {bytes} {before} {after} {told} w = go (leb (length bytes) (length before)) refl
  where
    go : (fits : Bool) → leb (length bytes) (length before) ≡ fits → Stands bytes before told after
    go true e = record { long = let s = rw e at w.said in cc; left = rw e at w.left }
    go false e = absurd (refused (sym (rw e at w.said)))

-- whatever a writer comes to: where it told a length, that was an answer
pub wrote_answer :
    (o : Outcome (List ℕ)) {before after : List ℕ} {told : ℕ}
    → Wrote o before (answer told) after
    → (bytes : List ℕ) × (o ≡ answer bytes) × Stands bytes before told after
unfolding mapped fitted
wrote_answer (answer bytes) w = (bytes, refl, wrote_bytes w)
wrote_answer (refusal n) w = absurd (refused (sym w.said))

-- the buffer stays as long as it is, and a length that was told is within it
pub record Within (told : Outcome ℕ) (before after : List ℕ) : Type 0 where
  pub same : length after ≡ length before
  pub most : (n : ℕ) → told ≡ answer n → n ≤ length before

pub wrote_within : (o : Outcome (List ℕ)) {before after : List ℕ} {told : Outcome ℕ} → Wrote o before told after → Within told before after
unfolding mapped fitted written
wrote_within (refusal k) w = record { same = rw w.left; most = λ n e. absurd (refused (rw w.said at e)) }
wrote_within (answer bytes) {before} {after} {told} w = go (leb (length bytes) (length before)) refl w.said w.left
  where
    go :
        (fits : Bool)
        → leb (length bytes) (length before) ≡ fits
        → told ≡ mapped length (cond fits (answer bytes) (refusal 5))
        → after ≡ written before (cond fits (answer bytes) (refusal 5))
        → Within told before after
    go true e said left =
        let room = leb-true (length bytes) (length before) e in
        record {
          same = rw (left, length-append, length-drop) (omega arith);
          most = λ n is. let long : n ≡ length bytes = cc in rw long room;
        }
    go false e said left = record { same = rw left; most = λ n is. absurd (refused (rw said at is)) }
