-- What each step keeps is so after all of them: of a state, of two states, and of a count. Assumes nothing.
use Prim.Native.Nat.{ℕ, suc, ◌+◌}
use native.Mathlib.Omega.{arith}
use mathlib.Core.Path.{◌≡◌, refl, ap}
use mathlib.Core.Bool.{Bool}
use mathlib.Core.List.{List, [], ◌∷◌, map}
use lib.ListN.{length}
use Rattle.zigbee_types.specs.Bytes.{bit}
use Rattle.demands.specs.Runs.{left, how_many}

module _ {S C : Type 0} (step : S → C → S) where
  -- what each step keeps of a state
  pub left_keeps : (P : S → Type 0) → ((s : S) (c : C) → P s → P (step s c)) → (cs : List C) {s : S} → P s → P (left step s cs)
  unfolding left
  left_keeps P keeps [] p = p
  left_keeps P keeps (c ∷ cs) {s} p = left_keeps P keeps cs (keeps s c p)

  -- and of two states, where the steps made in them are the same as far as f sees
  pub left_alike :
      {D : Type 0} (f : C → D) (R : S → S → Type 0)
      → ((s u : S) (c d : C) → f c ≡ f d → R s u → R (step s c) (step u d))
      → (cs ds : List C) {s u : S}
      → map f cs ≡ map f ds
      → R s u
      → R (left step s cs) (left step u ds)
  unfolding left
  left_alike f R keeps [] [] e r = r
  left_alike f R keeps [] (d ∷ ds) e r = absurd (let z : ◌≡◌ {A = ℕ} 0 (suc (length (map f ds))) = ap length e in omega arith)
  left_alike f R keeps (c ∷ cs) [] e r = absurd (let z : ◌≡◌ {A = ℕ} (suc (length (map f cs))) 0 = ap length e in omega arith)
  left_alike f R keeps (c ∷ cs) (d ∷ ds) {s} {u} e r =
      let first : f c ≡ f d = cc in
      let rest : map f cs ≡ map f ds = cc in
      left_alike f R keeps cs ds rest (keeps s u c d first r)

  module _ (count : S → ℕ) (removes adds : S → C → Bool) where
    -- what a step removes and what it adds make the count
    abbrev pub Balanced : S → C → Type 0
    Balanced s c = count (step s c) + bit (removes s c) ≡ count s + bit (adds s c)

    -- so do all of them, where each keeps a state in which that is so
    pub left_balanced :
        (P : S → Type 0)
        → ((s : S) (c : C) → P s → P (step s c) × Balanced s c)
        → (cs : List C) (s : S)
        → P s
        → count (left step s cs) + how_many step removes s cs ≡ count s + how_many step adds s cs
    unfolding left how_many
    left_balanced P each [] s p = refl
    left_balanced P each (c ∷ cs) s p =
        let (kept, one) = each s c p in
        omega (arith, left_balanced P each cs (step s c) kept)
