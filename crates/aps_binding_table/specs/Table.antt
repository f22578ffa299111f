-- The binding table: thirty-two places held by value, with a limit and a count (document 01, "Device tables and sizes").
use Rattle.std.specs.Prelude.{ℕ, ◌-◌, max, ◌≡◌, Bool, ◌&&◌, cond, List, ◌++◌, leb, length, take, drop, replicate}
use Rattle.zigbee_types.specs.Outcome.{Outcome, answer, refusal, mapped}
use Rattle.aps_binding.specs.Entry.{zero_binding}
use Rattle.aps_binding_table.specs.Held.{Step, bound, unbound}
use Rattle.aps_binding.specs.declared.binding.Binding.{Binding}
use Rattle.aps_binding_table.specs.declared.binding.BindingTable.{BindingTable}

-- a table that holds nothing yet
unfoldable pub empty_table : ℕ → BindingTable
empty_table limit = record { entries = replicate 32 zero_binding; limit = limit; count = 0 }

-- the count is within the limit, and the limit within the places
abbrev pub good_sizes : ℕ → ℕ → Bool
good_sizes count limit = leb count limit && leb limit 32

-- is a table good? Refusal 1 is given for one that is not. What stands in unused places does not matter.
unfoldable pub good_table : BindingTable → Bool
good_table t = good_sizes t.count t.limit

-- the entries in use
unfoldable pub held : BindingTable → List Binding
held t = take t.count t.entries

-- the table once it holds xs: these come first, a place that they no longer use holds zeros, and what stood behind stays. After a
-- bind that added, xs is one longer and nothing is freed; after an unbind that removed, it is one shorter and one place is freed;
-- otherwise xs is what is held, and the table is as it was (`HeldStays`).
unfoldable pub placed : BindingTable → List Binding → BindingTable
placed t xs =
    record {
      entries = xs ++ replicate (t.count - length xs) zero_binding ++ drop (max t.count (length xs)) t.entries;
      limit = t.limit;
      count = length xs;
    }

-- what a step on the entries in use comes to; refusal 1 for a table that is not good
unfoldable pub on_good : BindingTable → Step → Outcome Step
on_good t s = cond (good_table t) (answer s) (refusal 1)

-- `create_binding_link`
unfoldable pub create_binding_link : BindingTable → Binding → Outcome Step
create_binding_link t b = on_good t (bound t.limit (held t) b)

-- `remove_binding_link`
unfoldable pub remove_binding_link : BindingTable → Binding → Outcome Step
remove_binding_link t b = on_good t (unbound (held t) b)

-- the table after it: the entries then held are placed; a refusal leaves it as it was
unfoldable pub table_left : BindingTable → Outcome Step → BindingTable
table_left t (answer s) = placed t s.entries
table_left t (refusal n) = t

-- a call that comes to o on the table t: its status is told, or a refusal, and u is the table after it
pub record Leaves (o : Outcome Step) (t : BindingTable) (told : Outcome ℕ) (u : BindingTable) : Type 0 where
  pub said : told ≡ mapped (λ s. s.status) o
  pub left : u ≡ table_left t o
