-- Runs of fields, for whoever reads or puts one field behind the other: a run is made of its first field and of the run behind
-- it, and a whole run is what a parser or a writer owes. Assumes nothing.
use Prim.Native.Nat.{ℕ, ◌+◌, ◌≤◌, ◌<◌}
use native.Mathlib.Omega.{arith}
use mathlib.Core.Path.{◌≡◌, refl}
use mathlib.Core.List.{List, [], ◌∷◌, ◌++◌, append_assoc, append-nil}
use lib.ListN.{length, get_or, length-append}
use borrow.Author.Tests.{le-leb, lt-leb}
use Rattle.zigbee_types.specs.Outcome.{answer, refusal, needing, fitted, Wrote}
use Rattle.zigbee_types.specs.Bytes.{FieldRead, FieldPut}
use Rattle.zigbee_types.specs.Layout.{Field, laid, FieldsPut, size, fields_at, parsed}
use Rattle.zigbee_types.specs.FieldLaws.{widths}
use Rattle.zigbee_types.proofs.Fields.{sets_append}
use Rattle.zigbee_types.proofs.Layouts.{laid_counted}
use Rattle.zigbee_types.proofs.Numbers.{le_counted}
use Rattle.zigbee_types.proofs.Outcomes.{wrote_stored, wrote_full}

-- ---- reading

-- fields of these widths, one behind the other, have these values
pub record RunRead (ws bytes : List ℕ) (at : ℕ) (values : List ℕ) : Type 0 where
  pub told : values ≡ fields_at ws bytes at

-- no fields, no values
pub run_read_none : {bytes : List ℕ} {at : ℕ} → RunRead [] bytes at []
unfolding fields_at
run_read_none = record { told = refl }

-- a field and the run behind it
pub run_read_more :
    {w v at m : ℕ} {ws vs bytes : List ℕ} → FieldRead w bytes at v m → RunRead ws bytes m vs → RunRead (w ∷ ws) bytes at (v ∷ vs)
unfolding fields_at
run_read_more p q = record { told = rw (p.told, q.told, p.moved) }

-- so a parser answers with their values
pub run_parses :
    {A : Type 0} {ws bytes vs : List ℕ} (make : (ℕ → ℕ) → A)
    → RunRead ws bytes 0 vs
    → size ws ≤ length bytes
    → answer (make (λ i. get_or vs i 0)) ≡ parsed ws make bytes
unfolding parsed needing
run_parses make p h = simp (le-leb _ _ h, p.told)

-- of two fields
pub two_parse :
    {A : Type 0} {bytes : List ℕ} {a b u v i j : ℕ} {x : A} (make : (ℕ → ℕ) → A)
    → FieldRead a bytes 0 u i
    → FieldRead b bytes i v j
    → a + (b + 0) ≤ length bytes
    → x ≡ make (λ i. get_or (u ∷ v ∷ []) i 0)
    → answer x ≡ parsed (a ∷ b ∷ []) make bytes
unfolding size
two_parse make p q h e = rw e (run_parses make (run_read_more p (run_read_more q run_read_none)) h)

-- of three
pub three_parse :
    {A : Type 0} {bytes : List ℕ} {a b c u v w i j k : ℕ} {x : A} (make : (ℕ → ℕ) → A)
    → FieldRead a bytes 0 u i
    → FieldRead b bytes i v j
    → FieldRead c bytes j w k
    → a + (b + (c + 0)) ≤ length bytes
    → x ≡ make (λ i. get_or (u ∷ v ∷ w ∷ []) i 0)
    → answer x ≡ parsed (a ∷ b ∷ c ∷ []) make bytes
unfolding size
three_parse make p q r h e = rw e (run_parses make (run_read_more p (run_read_more q (run_read_more r run_read_none))) h)

-- and refuses where there are too few bytes
pub run_short :
    {A : Type 0} (ws bytes : List ℕ) (make : (ℕ → ℕ) → A) → length bytes < size ws → refusal 3 ≡ parsed ws make bytes
unfolding parsed needing
run_short ws bytes make h = rw (lt-leb _ _ h)

-- ---- putting

-- the bytes of two runs are those of the first, then those of the second
pub laid_append : (fs gs : List Field) → laid (fs ++ gs) ≡ laid fs ++ laid gs
unfolding laid
laid_append [] gs = refl
laid_append (f ∷ fs) gs = rw (laid_append fs gs, append_assoc)

-- no fields leave the buffer as it was
pub run_put_none : {s : List ℕ} {at : ℕ} → FieldsPut [] s at at s
unfolding laid
run_put_none = record { moved = omega arith; left = refl }

-- one field is a run
pub run_put_one : {w x at n : ℕ} {s t : List ℕ} → FieldPut w x s at n t → FieldsPut (record { width = w; value = x } ∷ []) s at n t
unfolding laid
run_put_one {w} {x} p = record { moved = rw (append-nil, le_counted) p.moved; left = rw append-nil p.left }

-- a run and the run behind it
pub run_put_both :
    {at m n : ℕ} {fs gs : List Field} {s t u : List ℕ} → FieldsPut fs s at m t → FieldsPut gs t m n u → FieldsPut (fs ++ gs) s at n u
run_put_both {at} {m} {n} {fs} {gs} {s} p q =
    record {
      moved = rw (laid_append, length-append) (omega (arith, p.moved, q.moved));
      left = rw (q.left, p.left, p.moved, laid_append, sets_append);
    }

-- a field and the run behind it
pub run_put_more :
    {w x at m n : ℕ} {fs : List Field} {s t u : List ℕ}
    → FieldPut w x s at m t
    → FieldsPut fs t m n u
    → FieldsPut (record { width = w; value = x } ∷ fs) s at n u
run_put_more p q = run_put_both (run_put_one p) q

-- the same, where the number that was put is told by an equation
pub run_put_told :
    {w x y at m n : ℕ} {fs : List Field} {s t u : List ℕ}
    → FieldPut w x s at m t
    → x ≡ y
    → FieldsPut fs t m n u
    → FieldsPut (record { width = w; value = y } ∷ fs) s at n u
run_put_told p e q = rw (← e) (run_put_more p q)

-- a run and one field behind it
pub run_put_last :
    {w x at m n : ℕ} {fs : List Field} {s t u : List ℕ}
    → FieldsPut fs s at m t
    → FieldPut w x t m n u
    → FieldsPut (fs ++ (record { width = w; value = x } ∷ [])) s at n u
run_put_last p q = run_put_both p (run_put_one q)

-- so the fields are written, where there is room for them
pub run_writes :
    {fs : List Field} {s t : List ℕ} {n : ℕ}
    → FieldsPut fs s 0 n t
    → size (widths fs) ≤ length s
    → Wrote (answer (laid fs)) s (answer n) t
run_writes {fs} p h = wrote_stored (laid fs) (omega (arith, p.moved)) p.left (rw (laid_counted fs) h)

-- and refused where there is none
pub run_full : (fs : List Field) (s : List ℕ) → length s < size (widths fs) → Wrote (answer (laid fs)) s (refusal 5) s
run_full fs s h = wrote_full (laid fs) s (rw (laid_counted fs) h)

-- which says of a writer that nothing fits
pub run_cut : (fs : List Field) (n : ℕ) → n < size (widths fs) → fitted n (answer (laid fs)) ≡ refusal 5
unfolding fitted
run_cut fs n h =
    let short : n < length (laid fs) = rw (laid_counted fs) h in
    rw (lt-leb _ _ short)
