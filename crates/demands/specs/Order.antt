-- More room never loses a binding (the third demand, of the table alone), as statements. A term of each stands in proofs/.
use Rattle.std.specs.Prelude.{ℕ, ◌≤◌, ◌≡◌, true, List}
use Rattle.zigbee_types.specs.Outcome.{Outcome, answer}
use Rattle.zigbee_types.specs.Statuses.{SUCCESS, NO_ENTRY, TABLE_FULL}
use Rattle.aps_binding_table.specs.Held.{holds}
use Rattle.aps_binding_table.specs.Table.{empty_table, held}
use Rattle.aps_binding.specs.declared.binding.Binding.{Binding}
use Rattle.aps_binding_table.specs.declared.binding.BindingTable.{BindingTable}
use Rattle.demands.specs.Calls.{Call, bind, unbind, told, after}

-- what is told of a call in a first run and in a second: the same, but that TABLE_FULL of a bind or NO_ENTRY of an unbind in the first
-- may be SUCCESS in the second
pub data Agree : Call → Outcome ℕ → Outcome ℕ → Type 0 where
  equal : (c : Call) (o : Outcome ℕ) → Agree c o o
  room : (b : Binding) → Agree (bind b) (answer TABLE_FULL) (answer SUCCESS)
  kept : (b : Binding) → Agree (unbind b) (answer NO_ENTRY) (answer SUCCESS)

-- so what succeeds in the first run succeeds in the second
abbrev pub SuccessKept : Type 0
SuccessKept = (c : Call) (o : Outcome ℕ) → Agree c (answer SUCCESS) o → o ≡ answer SUCCESS

-- every entry held in a first table is held in a second, and whatever call comes next, what is told agrees
pub record Ordered (t u : BindingTable) : Type 0 where
  pub entries : (b : Binding) → holds b (held t) ≡ true → holds b (held u) ≡ true
  pub statuses : (c : Call) → Agree c (told t c) (told u c)

-- so it is at each step of two runs of the same calls, from empty, the second with an equal or larger limit, both at most 32: cs are
-- the calls so far, and `statuses` speaks of the next one
abbrev pub Order : Type 0
Order =
    (less more : ℕ)
    → less ≤ more
    → more ≤ 32
    → (cs : List Call)
    → Ordered (after (empty_table less) cs) (after (empty_table more) cs)
