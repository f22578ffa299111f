-- Entries of the binding table (2.2.8.2.1), and when two are the same.
use Rattle.std.specs.Prelude.{ℕ, Bool, true, false, ◌&&◌, ◌||◌, List, [], ◌∷◌, eqb}
use Rattle.zigbee_types.specs.Addresses.{ieee_of, group_of}
use Rattle.zigbee_types.specs.declared.IeeeAddress.{IeeeAddress}
use Rattle.zigbee_types.specs.declared.GroupAddress.{GroupAddress}
use Rattle.aps_binding.specs.declared.binding.Binding.{Binding}

-- the mode of a destination that is a group (2.4.3.2.2)
abbrev pub GROUP : ℕ
GROUP = 0x01

-- and of one that is an endpoint of a device
abbrev pub DEVICE : ℕ
DEVICE = 0x03

-- an endpoint's cluster is bound to a group
abbrev pub group_binding : ℕ → ℕ → GroupAddress → Binding
group_binding endpoint cluster g =
    record { dst_ieee = ieee_of 0; cluster_id = cluster; src_endpoint = endpoint; dst_addr_mode = GROUP; dst_group = g; dst_endpoint = 0 }

-- an endpoint's cluster is bound to an endpoint of a device
abbrev pub device_binding : ℕ → ℕ → IeeeAddress → ℕ → Binding
device_binding endpoint cluster a to =
    record { dst_ieee = a; cluster_id = cluster; src_endpoint = endpoint; dst_addr_mode = DEVICE; dst_group = group_of 0; dst_endpoint = to }

-- the group binding of zeros: what an unused place holds in a table reached from empty, and what unbind puts into the place that
-- it frees (document 01)
unfoldable pub zero_binding : Binding
zero_binding = group_binding 0 0 (group_of 0)

-- does an entry route traffic of this endpoint and cluster?
abbrev pub routes : Binding → ℕ → ℕ → Bool
routes b endpoint cluster = eqb b.src_endpoint endpoint && eqb b.cluster_id cluster

-- what tells entries apart, in the order in which it is compared
unfoldable pub key : Binding → List ℕ
key b = b.cluster_id ∷ b.src_endpoint ∷ b.dst_ieee.0 ∷ b.dst_endpoint ∷ b.dst_group.0 ∷ b.dst_addr_mode ∷ []

-- are two lists of numbers one?
unfoldable pub alike : List ℕ → List ℕ → Bool
alike [] [] = true
alike [] (y ∷ ys) = false
alike (x ∷ xs) [] = false
alike (x ∷ xs) (y ∷ ys) = eqb x y && alike xs ys

-- two entries are the same if they have one key
unfoldable pub same : Binding → Binding → Bool
same a b = alike (key a) (key b)

-- an entry as `group` or `device` builds them: mode 1 or 3, and the fields of the other destination zero
unfoldable pub formed : Binding → Bool
formed b =
    eqb b.dst_addr_mode GROUP && eqb b.dst_ieee.0 0 && eqb b.dst_endpoint 0
    || eqb b.dst_addr_mode DEVICE && eqb b.dst_group.0 0
