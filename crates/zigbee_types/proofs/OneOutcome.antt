-- What equals one thing is one: each shape of a contract leaves one outcome. Assumes nothing.
use Prim.Native.Nat.{ℕ}
use mathlib.Core.Path.{◌≡◌, refl, sym, ap, ◌∙◌}
use mathlib.Core.Bool.{cond}
use lib.Dec.{eqb}
use Rattle.zigbee_types.specs.Outcome.{Outcome, answer, refusal}
use Rattle.zigbee_types.specs.Refusals.{refusal_number}
use Rattle.zigbee_types.specs.OneOutcome.{OneRead, OnePut, OneRun, OneWrote, OneBegun}
use Rattle.zigbee_types.specs.declared.Refusal.{Refusal}
use Rattle.zigbee_types.specs.declared.Refusal.TheVariants.{BadTables, UnknownCluster, Malformed, TooManyClusters, ShortBuffer}

-- two pairs that equal one pair
both : {A B : Type 0} {a b c : A} {x y z : B} → a ≡ c → x ≡ z → b ≡ c → y ≡ z → (a ≡ b) × (x ≡ y)
both p q r s = (p ∙ sym r, q ∙ sym s)

pub one_read : OneRead
one_read k bytes at v w m n p q = both p.told p.moved q.told q.moved

pub one_put : OnePut
one_put k x before at m n after later p q = both p.moved p.left q.moved q.left

pub one_run : OneRun
one_run fs before at m n after later p q = both p.moved p.left q.moved q.left

pub one_wrote : OneWrote
one_wrote o before r s after later p q = both p.said p.left q.said q.left

pub one_begun : OneBegun
one_begun o before r s after later p q = both p.said p.left q.said q.left

-- ---- answers that are enums

-- the refusal that has a number
abbrev refusal_of : ℕ → Refusal
refusal_of n =
    cond (eqb n 1) BadTables (cond (eqb n 2) UnknownCluster (cond (eqb n 3) Malformed (cond (eqb n 4) TooManyClusters ShortBuffer)))

refusal_back : (why : Refusal) → refusal_of (refusal_number why) ≡ why
refusal_back BadTables = refl
refusal_back UnknownCluster = refl
refusal_back Malformed = refl
refusal_back TooManyClusters = refl
refusal_back ShortBuffer = refl

-- the enum that an outcome came from, by the enum's two constructors
abbrev pub from : {A B : Type 0} → (A → B) → (Refusal → B) → Outcome A → B
from ok refused (answer a) = ok a
from ok refused (refusal n) = refused (refusal_of n)

-- an enum is determined by what it says, where it comes back from that
pub determined :
    {A B : Type 0} (says : B → Outcome A) (ok : A → B) (refused : Refusal → B)
    → ((b : B) → from ok refused (says b) ≡ b)
    → (a b : B)
    → says a ≡ says b
    → a ≡ b
determined says ok refused back a b e = sym (back a) ∙ ap (from ok refused) e ∙ back b

-- a refusal comes back
pub refused_back : {B : Type 0} (refused : Refusal → B) (why : Refusal) → refused (refusal_of (refusal_number why)) ≡ refused why
refused_back refused why = ap refused (refusal_back why)
