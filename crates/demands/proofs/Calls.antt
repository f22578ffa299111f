-- What a call leaves of a table of thirty-two places: a step on the entries in use where the table is good, and the table as it was
-- where it is not. Assumes nothing.
use Prim.Native.Nat.{ℕ, ◌≤◌}
use native.Mathlib.Omega.{arith}
use mathlib.Core.Path.{◌≡◌, refl}
use mathlib.Core.Bool.{Bool, true, false}
use mathlib.Core.List.{List, [], ◌∷◌, ◌++◌}
use lib.Dec.{eqb}
use lib.ListN.{length, length-append}
use borrow.Author.Tests.{eqb-true, eqb-false}
use Rattle.zigbee_types.specs.Outcome.{answer, refusal, mapped}
use Rattle.zigbee_types.specs.Statuses.{SUCCESS, NO_ENTRY, TABLE_FULL}
use Rattle.aps_binding_table.specs.Held.{Step, holds, without, bound_as, bound, unbound_as, unbound}
use Rattle.aps_binding_table.specs.Table.{good_table, held, placed, on_good, create_binding_link, remove_binding_link, table_left}
use Rattle.aps_binding.specs.declared.binding.Binding.{Binding}
use Rattle.aps_binding_table.specs.declared.binding.BindingTable.{BindingTable}
use Rattle.aps_binding_table.proofs.Good.{Good, held_length, on_good_lem}
use Rattle.aps_binding_table.proofs.Placed.{placed_held, placed_places}
use Rattle.aps_binding_table.proofs.Holds.{length_without}
use Rattle.demands.specs.Calls.{Call, bind, unbind, called, told, next}

-- ---- steps on the entries in use

-- the step of a call
unfoldable pub stepped : BindingTable → Call → Step
stepped t (bind b) = bound t.limit (held t) b
stepped t (unbind b) = unbound (held t) b

-- what it may come to, where xs are held and at most so many may be: a bind's entry is held already, or there is no room for it, or
-- it is put last; an unbind's entry goes, or is not held
pub data Stepped (limit : ℕ) (xs : List Binding) : Call → Step → Type 0 where
  again : (b : Binding) → holds b xs ≡ true → Stepped limit xs (bind b) (record { status = SUCCESS; entries = xs })
  full : (b : Binding) → holds b xs ≡ false → length xs ≡ limit → Stepped limit xs (bind b) (record { status = TABLE_FULL; entries = xs })
  added :
      (b : Binding)
      → holds b xs ≡ false
      → (length xs ≡ limit → ⊥)
      → Stepped limit xs (bind b) (record { status = SUCCESS; entries = xs ++ (b ∷ []) })
  removed : (b : Binding) → holds b xs ≡ true → Stepped limit xs (unbind b) (record { status = SUCCESS; entries = without b xs })
  absent : (b : Binding) → holds b xs ≡ false → Stepped limit xs (unbind b) (record { status = NO_ENTRY; entries = xs })

bound_cases : (limit : ℕ) (xs : List Binding) (b : Binding) → Stepped limit xs (bind b) (bound limit xs b)
unfolding bound bound_as
bound_cases limit xs b = go (holds b xs) (eqb (length xs) limit) refl refl
  where
    go : (p q : Bool) → holds b xs ≡ p → eqb (length xs) limit ≡ q → Stepped limit xs (bind b) (bound_as p q xs b)
    go true q h l = again b h
    go false true h l = full b h (eqb-true (length xs) limit l)
    go false false h l = added b h (eqb-false (length xs) limit l)

unbound_cases : (limit : ℕ) (xs : List Binding) (b : Binding) → Stepped limit xs (unbind b) (unbound xs b)
unfolding unbound unbound_as
unbound_cases limit xs b = go (holds b xs) refl
  where
    go : (p : Bool) → holds b xs ≡ p → Stepped limit xs (unbind b) (unbound_as p xs b)
    go true h = removed b h
    go false h = absent b h

-- so it is, whatever the call
pub step_cases : (t : BindingTable) (c : Call) → Stepped t.limit (held t) c (stepped t c)
unfolding stepped
step_cases t (bind b) = bound_cases t.limit (held t) b
step_cases t (unbind b) = unbound_cases t.limit (held t) b

-- never more entries than the limit
fits : {limit : ℕ} {xs : List Binding} {c : Call} {s : Step} → Stepped limit xs c s → length xs ≤ limit → length s.entries ≤ limit
fits (again b h) l = l
fits (full b h e) l = l
fits (added b h room) l = simp length-append (omega arith)
fits {xs = xs} (removed b h) l = omega (arith, length_without b xs h)
fits (absent b h) l = l

-- ---- calls

called_step : (t : BindingTable) (c : Call) → called t c ≡ on_good t (stepped t c)
unfolding called stepped create_binding_link remove_binding_link
called_step t (bind b) = refl
called_step t (unbind b) = refl

-- a table that is not good is left as it was, and refusal 1 is told
module _ (t : BindingTable) (c : Call) (bad : good_table t ≡ false) where
  refused : called t c ≡ refusal 1
  unfolding on_good
  refused = rw (called_step t c, bad)

  pub told_refused : told t c ≡ refusal 1
  unfolding told mapped
  told_refused = rw refused

  pub next_refused : next t c ≡ t
  unfolding next table_left
  next_refused = rw refused

-- else the step's status is told, and its entries are placed
module _ {t : BindingTable} (c : Call) (s : Good t) where
  answered : called t c ≡ answer (stepped t c)
  answered = rw (called_step t c) (on_good_lem s (stepped t c))

  pub told_step : told t c ≡ answer (stepped t c).status
  unfolding told mapped
  told_step = rw answered

  pub next_placed : next t c ≡ placed t (stepped t c).entries
  unfolding next table_left
  next_placed = rw answered

pub stepped_fits : {t : BindingTable} (c : Call) → Good t → length (stepped t c).entries ≤ t.limit
stepped_fits {t} c s = fits (step_cases t c) (omega (arith, held_length s))

-- so the table stays good
pub good_next : {t : BindingTable} (c : Call) → Good t → Good (next t c)
unfolding placed
good_next {t} c s =
    let xs = (stepped t c).entries in
    let few : length xs ≤ t.limit = stepped_fits c s in
    let whole = placed_places t xs (omega arith) (omega arith) s.places in
    rw (next_placed c s) (record { within = few; limited = s.limited; places = whole })

-- and its limit
pub next_limit : {t : BindingTable} (c : Call) → Good t → (next t c).limit ≡ t.limit
unfolding placed
next_limit c s = rw (next_placed c s)

-- and holds the step's entries
pub next_held : {t : BindingTable} (c : Call) → Good t → held (next t c) ≡ (stepped t c).entries
next_held {t} c s = rw (next_placed c s) (placed_held t (stepped t c).entries)
