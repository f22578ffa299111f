-- What `placed` leaves in the places of a table where the entries are those held, one more, or one fewer, as statements. A term
-- of each stands in proofs/.
use Rattle.std.specs.Prelude.{◌+◌, ◌-◌, ◌≤◌, ◌<◌, ◌≡◌, List, [], ◌∷◌, ◌++◌, length, set, drop}
use Rattle.aps_binding.specs.Entry.{zero_binding}
use Rattle.aps_binding_table.specs.Table.{held, placed}
use Rattle.aps_binding.specs.declared.binding.Binding.{Binding}
use Rattle.aps_binding_table.specs.declared.binding.BindingTable.{BindingTable}

-- the entries that a table holds, placed into it, leave it as it was
abbrev pub HeldStays : Type 0
HeldStays = (t : BindingTable) → t.count ≤ length t.entries → placed t (held t) ≡ t

-- with one entry more at the end, that entry stands at the count and all else stays
abbrev pub AddedStands : Type 0
AddedStands =
    (t : BindingTable) (b : Binding)
    → t.count < length t.entries
    → placed t (held t ++ (b ∷ [])) ≡ record { entries = set t.entries t.count b; limit = t.limit; count = t.count + 1 }

-- with one entry fewer, the place that is freed holds zeros and all behind it stays
abbrev pub FreedZeros : Type 0
FreedZeros =
    (t : BindingTable) (xs : List Binding)
    → length xs + 1 ≡ t.count
    → t.count ≤ length t.entries
    → placed t xs ≡ record { entries = xs ++ (zero_binding ∷ []) ++ drop t.count t.entries; limit = t.limit; count = t.count - 1 }
