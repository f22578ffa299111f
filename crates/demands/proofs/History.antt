-- The count of a table is the binds that added less the unbinds that removed. Assumes nothing.
use Prim.Native.Nat.{◌+◌}
use native.Mathlib.Omega.{arith}
use mathlib.Core.Path.{◌≡◌, refl}
use mathlib.Core.Bool.{Bool, true, false}
use lib.ListN.{length, length-append}
use Rattle.zigbee_types.specs.Bytes.{bit}
use Rattle.zigbee_types.specs.Outcome.{answer}
use Rattle.aps_binding_table.specs.Held.{Step}
use Rattle.aps_binding_table.specs.Table.{empty_table, good_table, held, placed}
use Rattle.aps_binding_table.specs.declared.binding.BindingTable.{BindingTable}
use Rattle.aps_binding_table.proofs.Good.{Good, good_table_lem, held_length}
use Rattle.aps_binding_table.proofs.Holds.{length_without}
use Rattle.demands.specs.Calls.{Call, bind, unbind, told, next}
use Rattle.demands.specs.History.{succeeded, adds, removes, History}
use Rattle.demands.proofs.Runs.{Balanced, left_balanced}
use Rattle.demands.proofs.Calls.{Stepped, again, full, added, removed, absent, step_cases, told_refused, next_refused, told_step, next_placed, good_next}

-- ---- one call

-- what it removes and what it adds make the count
abbrev Even : BindingTable → Call → Type 0
Even = Balanced next (λ t. t.count) removes adds

-- so it is with the entries of a step whose status is told
balanced :
    (t : BindingTable) {c : Call} {s : Step}
    → Stepped t.limit (held t) c s
    → told t c ≡ answer s.status
    → length s.entries + bit (removes t c) ≡ length (held t) + bit (adds t c)
unfolding adds removes succeeded bit
balanced t (again b h) e = rw (e, h)
balanced t (full b h l) e = rw e
balanced t (added b h l) e = rw (e, h, length-append) (omega arith)
balanced t (removed b h) e = rw e (omega (arith, length_without b (held t) h))
balanced t (absent b h) e = rw e

-- so it is with a good table
balanced_step : {t : BindingTable} (c : Call) → Good t → Even t c
unfolding placed
balanced_step {t} c s = rw (next_placed c s) (omega (arith, held_length s, balanced t (step_cases t c) (told_step c s)))

-- and with any other, which is left as it was
balanced_refused : (t : BindingTable) (c : Call) → good_table t ≡ false → Even t c
unfolding adds removes succeeded bit
balanced_refused t (bind b) bad = rw (next_refused t (bind b) bad, told_refused t (bind b) bad)
balanced_refused t (unbind b) bad = rw (next_refused t (unbind b) bad, told_refused t (unbind b) bad)

-- ---- a sequence of calls, from any table of thirty-two places

-- the places stay thirty-two, and the call is balanced
pub turn : (t : BindingTable) (c : Call) → length t.entries ≡ 32 → (length (next t c).entries ≡ 32) × Even t c
turn t c e = go (good_table t) refl
  where
    go : (good : Bool) → good_table t ≡ good → (length (next t c).entries ≡ 32) × Even t c
    go true g =
        let s = good_table_lem t e g in
        ((good_next c s).places, balanced_step c s)
    go false g = (rw (next_refused t c g) e, balanced_refused t c g)

pub history : History
unfolding empty_table
history limit cs = omega (arith, left_balanced next (λ t. t.count) removes adds (λ t. length t.entries ≡ 32) turn cs (empty_table limit) refl)
