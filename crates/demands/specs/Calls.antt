-- Sequences of calls of the binding table: what each comes to, and the table that they leave.
use Rattle.std.specs.Prelude.{ℕ, List}
use Rattle.zigbee_types.specs.Outcome.{Outcome, mapped}
use Rattle.aps_binding_table.specs.Held.{Step}
use Rattle.aps_binding_table.specs.Table.{create_binding_link, remove_binding_link, table_left}
use Rattle.aps_binding.specs.declared.binding.Binding.{Binding}
use Rattle.aps_binding_table.specs.declared.binding.BindingTable.{BindingTable}
use Rattle.demands.specs.Runs.{left}

-- a call of `create_binding_link` or of `remove_binding_link`, with its entry
pub data Call : Type 0 where
  bind : Binding → Call
  unbind : Binding → Call

-- what it comes to
unfoldable pub called : BindingTable → Call → Outcome Step
called t (bind b) = create_binding_link t b
called t (unbind b) = remove_binding_link t b

-- the status that is told, or the refusal
unfoldable pub told : BindingTable → Call → Outcome ℕ
told t c = mapped (λ s. s.status) (called t c)

-- the table after it
unfoldable pub next : BindingTable → Call → BindingTable
next t c = table_left t (called t c)

-- the table after a sequence of calls, one after the other
abbrev pub after : BindingTable → List Call → BindingTable
after = left next
