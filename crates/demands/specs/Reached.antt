-- What is so of every table that a sequence of calls reaches from empty, and of one that a sequence of `device` and `group` entries
-- reaches, as statements. A term of them stands in proofs/.
use Rattle.std.specs.Prelude.{ℕ, ◌-◌, ◌≤◌, ◌≡◌, Bool, true, ◌&&◌, not, List, [], ◌∷◌, length, drop, replicate}
use Rattle.zigbee_types.specs.Lists.{all}
use Rattle.zigbee_types.specs.declared.GroupAddress.{GroupAddress}
use Rattle.zigbee_types.specs.declared.IeeeAddress.{IeeeAddress}
use Rattle.aps_binding.specs.Entry.{group_binding, device_binding, zero_binding, formed}
use Rattle.aps_binding_table.specs.Held.{holds}
use Rattle.aps_binding_table.specs.Table.{empty_table, good_table, held}
use Rattle.aps_binding.specs.declared.binding.Binding.{Binding}
use Rattle.aps_binding_table.specs.declared.binding.BindingTable.{BindingTable}
use Rattle.demands.specs.Calls.{Call, bind, unbind, after}

-- ---- the sequences

-- an entry that `Binding::group` or `Binding::device` builds
pub data Built : Binding → Type 0 where
  group : (endpoint cluster : ℕ) (g : GroupAddress) → Built (group_binding endpoint cluster g)
  device : (endpoint cluster : ℕ) (a : IeeeAddress) (to : ℕ) → Built (device_binding endpoint cluster a to)

-- a bind has such an entry; an unbind may have any
abbrev pub BuiltCall : Call → Type 0
BuiltCall (bind b) = Built b
BuiltCall (unbind b) = Unit {0}

-- so it is with every call of a sequence
abbrev pub AllBuilt : List Call → Type 0
AllBuilt [] = Unit {0}
AllBuilt (c ∷ cs) = BuiltCall c × AllBuilt cs

-- ---- the tables

-- no entry stands twice: none is the same as one behind it
unfoldable pub distinct : List Binding → Bool
distinct [] = true
distinct (x ∷ xs) = not (holds x xs) && distinct xs

-- whatever the entries: none stands twice, the count is at most the limit, the group binding of zeros stands behind the count in
-- the thirty-two places, and the table is good, so that no call is refused
pub record Sound (t : BindingTable) : Type 0 where
  pub once : distinct (held t) ≡ true
  pub within : t.count ≤ t.limit
  pub zeros : drop t.count t.entries ≡ replicate (32 - t.count) zero_binding
  pub places : length t.entries ≡ 32
  pub good : good_table t ≡ true

-- and where they were built by `group` and `device`, only formed ones are held
pub record Reached (t : BindingTable) : Type 0 where
  pub sound : Sound t
  pub all_formed : all formed (held t) ≡ true

-- every table that is reached from empty with a limit of at most 32 is sound
abbrev pub SoundFromEmpty : Type 0
SoundFromEmpty = (limit : ℕ) → limit ≤ 32 → (cs : List Call) → Sound (after (empty_table limit) cs)

-- and holds only formed entries where only such are bound
abbrev pub ReachedFromEmpty : Type 0
ReachedFromEmpty = (limit : ℕ) → limit ≤ 32 → (cs : List Call) → AllBuilt cs → Reached (after (empty_table limit) cs)
