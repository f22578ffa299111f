-- What `placed` leaves, whatever the entries: they are held, and the places stay as many, with zeros behind them. Assumes nothing.
use Prim.Native.Nat.{◌+◌, ◌-◌, max, ◌≤◌}
use native.Mathlib.Omega.{arith}
use mathlib.Core.Path.{◌≡◌}
use mathlib.Core.List.{List, append_assoc}
use lib.ListN.{length, drop, replicate, length-append, length-drop, length-replicate, replicate-append-replicate}
use lib.Seq.{take-append_seam, drop-append_seam, drop-drop}
use Rattle.zigbee_types.proofs.Elements.{drop_replicate}
use Rattle.aps_binding.specs.Entry.{zero_binding}
use Rattle.aps_binding_table.specs.Table.{held, placed}
use Rattle.aps_binding.specs.declared.binding.Binding.{Binding}
use Rattle.aps_binding_table.specs.declared.binding.BindingTable.{BindingTable}

module _ (t : BindingTable) (xs : List Binding) where
  pub placed_held : held (placed t xs) ≡ xs
  unfolding held placed
  placed_held = rw (append_assoc, take-append_seam)

  module _ (few : t.count ≤ 32) (fit : length xs ≤ 32) where
    pub placed_places : length t.entries ≡ 32 → length (placed t xs).entries ≡ 32
    unfolding placed
    placed_places whole = simp (length-append, length-replicate, length-drop, whole) (omega arith)

    -- where zeros stood behind the count, zeros stand behind the entries
    pub placed_zeros :
        drop t.count t.entries ≡ replicate (32 - t.count) zero_binding
        → drop (length xs) (placed t xs).entries ≡ replicate (32 - length xs) zero_binding
    unfolding placed
    placed_zeros rest =
        let furthest : max t.count (length xs) ≡ t.count + (length xs - t.count) = omega arith in
        let all : t.count - length xs + (32 - t.count - (length xs - t.count)) ≡ 32 - length xs = omega arith in
        rw (append_assoc, drop-append_seam, furthest, ← drop-drop, rest, drop_replicate, replicate-append-replicate, all)
