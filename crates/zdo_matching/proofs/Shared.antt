-- The search for a cluster that both sides share: what its two loops keep, and what each turn and each way out makes of it. Assumes
-- nothing.
use Prim.Native.Nat.{ℕ, suc, ◌+◌, ◌-◌, ◌*◌, ◌≤◌, ◌<◌}
use native.Mathlib.Nat.{mul-zero, mul-add, mul-one, add-zero, add_assoc}
use native.Mathlib.Numerals.{add-one}
use native.Mathlib.Omega.{arith}
use mathlib.Core.Path.{◌≡◌, refl, sym, ◌∙◌}
use mathlib.Core.Bool.{Bool, true, false}
use mathlib.Core.List.{List, [], ◌∷◌}
use lib.Dec.{eqb}
use lib.ListN.{length, get_or, drop, replicate, drop_of_length-le}
use lib.Seq.{drop-cons}
use borrow.Author.Tests.{eq-eqb, ne_eqb}
use Rattle.zigbee_types.specs.Bytes.{number_at, FieldRead}
use Rattle.zigbee_types.specs.Layout.{fields_at, entries_at}
use Rattle.zigbee_types.specs.Lists.{any}
use Rattle.zigbee_types.specs.declared.Places.{Places}
use Rattle.zigbee_types.proofs.Scans.{any_here, any_next, any_end}
use Rattle.zdo_matching.specs.Matching.{shared}

-- ---- the entries of a list that are left behind the first i

module _ (w : ℕ) (bytes : List ℕ) (p : Places) where
  unfoldable pub rest : ℕ → List ℕ
  rest i = fields_at (replicate (p.count - i) w) bytes (p.start + w * i)

  -- all, to begin with
  rest_first : entries_at w bytes p ≡ rest 0
  unfolding entries_at rest
  rest_first =
      let all : p.count - 0 ≡ p.count = omega arith in
      rw (all, mul-zero, add-zero)

  -- the next, and those behind it
  rest_next : (i : ℕ) → i < p.count → rest i ≡ number_at w bytes (p.start + w * i) ∷ rest (i + 1)
  unfolding rest fields_at
  rest_next i h =
      let more : p.count - i ≡ suc (p.count - (i + 1)) = omega arith in
      rw (more, mul-add, mul-one, ← add_assoc)

  -- none, at the end
  rest_end : (i : ℕ) → p.count ≤ i → rest i ≡ []
  unfolding rest fields_at
  rest_end i h = let none : p.count - i ≡ 0 = omega arith in rw none

-- ---- one's own clusters

-- a cluster is not among the first j of one's own
pub record Among (cluster : ℕ) (own : List ℕ) (j : ℕ) : Type 0 where
  pub within : j ≤ length own
  pub left : any (eqb cluster) own ≡ any (eqb cluster) (drop j own)

-- of none, to begin with
pub among_first : {cluster : ℕ} {own : List ℕ} → Among cluster own 0
among_first = record { within = omega arith; left = refl }

-- nor is it the next
pub among_next :
    {cluster j : ℕ} {own : List ℕ} → Among cluster own j → j < length own → (get_or own j 0 ≡ cluster → ⊥) → Among cluster own (j + 1)
among_next {cluster} {j} {own} a h other =
    record {
      within = omega arith;
      left = a.left ∙ any_next (eqb cluster) (rw add-one (drop-cons own j 0 h)) (ne_eqb cluster (get_or own j 0) (λ e. other (sym e)));
    }

-- ---- the clusters asked for

-- none of the first i clusters of a list is among one's own
pub record Asked (payload : List ℕ) (p : Places) (own : List ℕ) (i : ℕ) : Type 0 where
  pub within : i ≤ p.count
  pub left : shared (entries_at 2 payload p) own ≡ shared (rest 2 payload p i) own

-- of none, to begin with
pub asked_first : {payload own : List ℕ} {p : Places} → Asked payload p own 0
asked_first {payload} {own} {p} = record { within = omega arith; left = rw (rest_first 2 payload p) }

module _ {payload own : List ℕ} {p : Places} {i : ℕ} (a : Asked payload p own i) where
  -- there is no next
  pub asked_end : {found : Bool} → found ≡ false → p.count ≤ i → found ≡ shared (entries_at 2 payload p) own
  unfolding shared
  asked_end e h = e ∙ sym (a.left ∙ any_end _ (rest_end 2 payload p i h))

  module _ (h : i < p.count) {cluster next : ℕ} (q : FieldRead 2 payload (p.start + 2 * i) cluster next) {j : ℕ} (m : Among cluster own j) where
    here : rest 2 payload p i ≡ cluster ∷ rest 2 payload p (i + 1)
    here = rw q.told (rest_next 2 payload p i h)

    -- the next is not among one's own
    pub asked_next : length own ≤ j → Asked payload p own (i + 1)
    unfolding shared
    asked_next l =
        record {
          within = omega arith;
          left = a.left ∙ any_next _ here (m.left ∙ any_end _ (drop_of_length-le own l));
        }

    -- the next is
    pub asked_here : j < length own → get_or own j 0 ≡ cluster → true ≡ shared (entries_at 2 payload p) own
    unfolding shared
    asked_here l e = sym (a.left ∙ any_here _ here (m.left ∙ any_here _ (drop-cons own j 0 l) (eq-eqb _ _ (sym e))))
