-- What each way out of a bind and of an unbind returns is what the contract says. Assumes nothing.
use Prim.Native.Nat.{ℕ, ◌+◌, ◌-◌, ◌<◌}
use mathlib.Core.Path.{◌≡◌, refl, sym, ◌∙◌}
use mathlib.Core.Bool.{Bool, true, false}
use mathlib.Core.List.{List}
use native.Mathlib.Omega.{arith}
use lib.ListN.{length, set, take}
use borrow.Author.Tests.{eq-eqb, ne_eqb}
use Rattle.std.specs.Prelude.{Option, Some, None, Ok, Err}
use Rattle.std.specs.List.{list_any, position, copy_within}
use Rattle.aps_binding.specs.Entry.{same, group_binding}
use Rattle.zigbee_types.specs.Addresses.{group_of}
use Rattle.zigbee_types.specs.Outcome.{Outcome, answer, mapped}
use Rattle.zigbee_types.specs.declared.Refusal.TheVariants.{BadTables}
use Rattle.aps_binding_table.specs.Held.{Step, holds, bound, bound_as, unbound, unbound_as}
use Rattle.aps_binding_table.specs.Table.{good_sizes, good_table, held, placed, on_good, create_binding_link, remove_binding_link, table_left, Leaves}
use Rattle.aps_binding_table.specs.Answers.{link_says}
use Rattle.aps_binding.specs.declared.binding.Binding.{Binding}
use Rattle.aps_binding_table.specs.declared.binding.BindingTable.{BindingTable}
use Rattle.aps_binding_table.specs.declared.binding.BindingError.TheVariants.{InvalidBinding, TableFull, Refused}
use Rattle.aps_binding_table.proofs.Good.{Good, good_table_lem, count_inside, held_length, on_good_lem}
use Rattle.aps_binding_table.proofs.Places.{held_stays, added_stands}
use Rattle.aps_binding_table.proofs.Shift.{shifted}
use Rattle.aps_binding_table.proofs.Search.{holds_any, missed, at_place}

-- ---- refusal 1

module _ {t : BindingTable} {good : Bool} (is : good ≡ good_sizes t.count t.limit) (bad : good ≡ false) where
  refused : (s : Step) → Leaves (on_good t s) t (link_says (Err (Refused BadTables))) t
  unfolding on_good good_table link_says mapped table_left
  refused s = rw (← is, bad) (record { said = refl; left = refl })

  pub create_refused : (b : Binding) → Leaves (create_binding_link t b) t (link_says (Err (Refused BadTables))) t
  unfolding create_binding_link
  create_refused b = refused _

  pub remove_refused : (b : Binding) → Leaves (remove_binding_link t b) t (link_says (Err (Refused BadTables))) t
  unfolding remove_binding_link
  remove_refused b = refused _

-- ---- a good table

pub tested_good :
    {t : BindingTable} {good : Bool} → length t.entries ≡ 32 → good ≡ good_sizes t.count t.limit → good ≡ true → Good t
unfolding good_table
tested_good {t} {good} e is h = good_table_lem t e (sym is ∙ h)

module _ {t : BindingTable} (g : Good t) where
  -- below its limit there is a place
  pub create_room : (t.count ≡ t.limit → ⊥) → t.count < 32
  create_room n = omega (arith, g.within, g.limited)

  -- it tells a step's status, and has its entries placed
  leaves : (s : Step) {told : Outcome ℕ} {u : BindingTable} → told ≡ answer s.status → u ≡ placed t s.entries → Leaves (on_good t s) t told u
  unfolding table_left mapped
  leaves s e f = rw (on_good_lem g s) (record { said = e; left = f })

  -- where these are those that it holds, it is as it was
  stays : (n : ℕ) → Leaves (on_good t (record { status = n; entries = held t })) t (answer n) t
  stays n = leaves _ refl (sym (held_stays t (count_inside g)))

-- ---- the search for an entry

module _ (b : Binding) {t : BindingTable} (g : Good t) where
  -- a bind: it is held; there is no room; and there is
  module _ {found : Bool} (is : found ≡ list_any (λ x. same x b) (take t.count t.entries)) where
    told : holds b (held t) ≡ found
    unfolding held
    told = holds_any b (take t.count t.entries) ∙ sym is

    pub create_held : found ≡ true → Leaves (create_binding_link t b) t (link_says (Ok tt)) t
    unfolding create_binding_link bound bound_as link_says
    create_held h = rw (told, h) (stays g _)

    pub create_full : found ≡ false → t.count ≡ t.limit → Leaves (create_binding_link t b) t (link_says (Err TableFull)) t
    unfolding create_binding_link bound bound_as link_says
    create_full h e = rw (told, h, held_length g, eq-eqb _ _ e) (stays g _)

    pub create_added :
        found ≡ false
        → (t.count ≡ t.limit → ⊥)
        → Leaves (create_binding_link t b) t (link_says (Ok tt)) (record { entries = set t.entries t.count b; limit = t.limit; count = t.count + 1 })
    unfolding create_binding_link bound bound_as link_says
    create_added h n =
        let room : t.count < length t.entries = omega (arith, create_room g n, g.places) in
        rw (told, h, held_length g, ne_eqb _ _ n) (leaves g _ refl (sym (added_stands t b room)))

  -- an unbind: it is held; and it is not
  module _ {found : Option ℕ} (is : found ≡ position (λ x. same x b) (take t.count t.entries)) where
    is_held : found ≡ position (λ x. same x b) (held t)
    unfolding held
    is_held = is

    pub remove_none : found ≡ None → Leaves (remove_binding_link t b) t (link_says (Err InvalidBinding)) t
    unfolding remove_binding_link unbound unbound_as link_says
    remove_none h = rw (missed b (held t) (is_held) h) (stays g _)

    pub remove_found :
        (at : ℕ) {es : List Binding} {z : Binding}
        → found ≡ Some at
        → es ≡ copy_within t.entries (at + 1) t.count at
        → z ≡ group_binding 0 0 (group_of 0)
        → Leaves (remove_binding_link t b) t (link_says (Ok tt)) (record { entries = set es (t.count - 1) z; limit = t.limit; count = t.count - 1 })
    unfolding remove_binding_link unbound unbound_as link_says
    remove_found at h m e =
        let (here, inside, left) = at_place b (held t) is_held at h in
        let before : at < t.count = omega (arith, held_length g) in
        rw (here, left) (leaves g _ refl (shifted t at before (count_inside g) m e))
