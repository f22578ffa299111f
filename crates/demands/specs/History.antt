-- Over any sequence from empty, the count is the binds that added less the unbinds that removed (document 01, "Binding and
-- dispatch"), as a statement. A term of it stands in proofs/. What added and what removed goes by status and by what was held,
-- not by the count.
use Rattle.std.specs.Prelude.{ℕ, ◌+◌, ◌≡◌, Bool, false, ◌&&◌, not, List, eqb}
use Rattle.zigbee_types.specs.Outcome.{Outcome, answer, refusal}
use Rattle.zigbee_types.specs.Statuses.{SUCCESS}
use Rattle.aps_binding_table.specs.Held.{holds}
use Rattle.aps_binding_table.specs.Table.{empty_table, held}
use Rattle.aps_binding_table.specs.declared.binding.BindingTable.{BindingTable}
use Rattle.demands.specs.Runs.{how_many}
use Rattle.demands.specs.Calls.{Call, bind, unbind, told, next, after}

-- is the status SUCCESS?
unfoldable pub succeeded : Outcome ℕ → Bool
succeeded (answer status) = eqb status SUCCESS
succeeded (refusal n) = false

-- a bind added if its status is SUCCESS and no same entry was held before
unfoldable pub adds : BindingTable → Call → Bool
adds t (bind b) = succeeded (told t (bind b)) && not (holds b (held t))
adds t (unbind b) = false

-- an unbind removed if its status is SUCCESS
unfoldable pub removes : BindingTable → Call → Bool
removes t (bind b) = false
removes t (unbind b) = succeeded (told t (unbind b))

-- whatever the limit, the count and the unbinds that removed are together the binds that added
abbrev pub History : Type 0
History =
    (limit : ℕ) (cs : List Call)
    → (after (empty_table limit) cs).count + how_many next removes (empty_table limit) cs ≡ how_many next adds (empty_table limit) cs
