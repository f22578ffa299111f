-- Good tables of thirty-two places: what refusal 1 is not given for. Assumes nothing.
use Prim.Native.Nat.{ℕ, ◌≤◌}
use native.Mathlib.Omega.{arith}
use mathlib.Core.Path.{◌≡◌, refl}
use mathlib.Core.Bool.{true, and-eq-true_iff}
use lib.Dec.{leb}
use lib.ListN.{length}
use lib.Seq.{length-take-le}
use borrow.Author.Tests.{leb-true, le-leb}
use Rattle.zigbee_types.specs.Outcome.{answer}
use Rattle.aps_binding_table.specs.Held.{Step}
use Rattle.aps_binding_table.specs.Table.{empty_table, good_table, held, on_good}
use Rattle.aps_binding_table.specs.declared.binding.BindingTable.{BindingTable}

pub record Good (t : BindingTable) : Type 0 where
  pub within : t.count ≤ t.limit
  pub limited : t.limit ≤ 32
  pub places : length t.entries ≡ 32

-- such is an empty one
pub empty_good : (limit : ℕ) → limit ≤ 32 → Good (empty_table limit)
unfolding empty_table
empty_good limit h = record { within = omega arith; limited = h; places = refl }

-- and each that passes the test
pub good_table_lem : (t : BindingTable) → length t.entries ≡ 32 → good_table t ≡ true → Good t
unfolding good_table
good_table_lem t e g =
    let (few, small) = (and-eq-true_iff (leb t.count t.limit) (leb t.limit 32)).0 g in
    record { within = leb-true t.count t.limit few; limited = leb-true t.limit 32 small; places = e }

module _ {t : BindingTable} (g : Good t) where
  pub count_fits : t.count ≤ 32
  count_fits = omega (arith, g.within, g.limited)

  pub count_inside : t.count ≤ length t.entries
  count_inside = omega (arith, count_fits, g.places)

  -- it holds as many entries as it counts
  pub held_length : length (held t) ≡ t.count
  unfolding held
  held_length = length-take-le t.count t.entries count_inside

  -- it passes the test
  pub good_tested : good_table t ≡ true
  unfolding good_table
  good_tested = rw (le-leb t.count t.limit g.within, le-leb t.limit 32 g.limited)

  -- and so is not refused
  pub on_good_lem : (s : Step) → on_good t s ≡ answer s
  unfolding on_good
  on_good_lem s = rw good_tested
