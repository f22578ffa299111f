-- What is so of every table that calls reach from empty, and of one that `device` and `group` entries reach: each call keeps it
-- so. Assumes nothing.
use Prim.Native.Nat.{ℕ, ◌≤◌}
use native.Mathlib.Omega.{arith}
use mathlib.Core.Path.{◌≡◌, refl}
use mathlib.Core.Bool.{true}
use mathlib.Core.List.{List, [], ◌∷◌}
use lib.ListN.{length}
use Rattle.zigbee_types.specs.Lists.{all}
use Rattle.zigbee_types.proofs.Elements.{all_last}
use Rattle.aps_binding.specs.Entry.{formed}
use Rattle.aps_binding_table.specs.Held.{Step}
use Rattle.aps_binding_table.specs.Table.{empty_table, held, placed}
use Rattle.aps_binding.specs.declared.binding.Binding.{Binding}
use Rattle.aps_binding_table.specs.declared.binding.BindingTable.{BindingTable}
use Rattle.aps_binding_table.proofs.Good.{Good, empty_good, good_table_lem, good_tested, count_fits}
use Rattle.aps_binding_table.proofs.Placed.{placed_zeros}
use Rattle.aps_binding_table.proofs.Holds.{all_without}
use Rattle.demands.specs.Runs.{left}
use Rattle.demands.specs.Calls.{Call, next, after}
use Rattle.demands.specs.Reached.{Built, group, device, BuiltCall, AllBuilt, distinct, Sound, Reached, SoundFromEmpty, ReachedFromEmpty}
use Rattle.demands.proofs.Runs.{left_keeps}
use Rattle.demands.proofs.Calls.{stepped, Stepped, again, full, added, removed, absent, step_cases, next_placed, next_held, stepped_fits, good_next}
use Rattle.demands.proofs.Distinct.{distinct_last, distinct_without}

-- ---- sound tables

-- no entry stands twice after a step
pub once_step : {limit : ℕ} {xs : List Binding} {c : Call} {s : Step} → Stepped limit xs c s → distinct xs ≡ true → distinct s.entries ≡ true
once_step (again b h) d = d
once_step (full b h e) d = d
once_step {xs = xs} (added b h room) d = distinct_last b xs d h
once_step {xs = xs} (removed b h) d = distinct_without b xs d
once_step (absent b h) d = d

-- a sound table is good
pub sound_good : {t : BindingTable} → Sound t → Good t
sound_good {t} r = good_table_lem t r.places r.good

pub sound_next : {t : BindingTable} (c : Call) → Sound t → Sound (next t c)
unfolding placed
sound_next {t} c r =
    let g = sound_good r in
    let n = good_next c g in
    let xs = (stepped t c).entries in
    let fit : length xs ≤ 32 = omega (arith, stepped_fits c g, g.limited) in
    let behind = placed_zeros t xs (count_fits g) fit r.zeros in
    record {
      once = rw (next_held c g) (once_step (step_cases t c) r.once);
      within = n.within;
      zeros = rw (next_placed c g) behind;
      places = n.places;
      good = good_tested n;
    }

empty_sound : (limit : ℕ) → limit ≤ 32 → Sound (empty_table limit)
unfolding empty_table held distinct
empty_sound limit h =
    let g = empty_good limit h in
    record { once = refl; within = g.within; zeros = refl; places = g.places; good = good_tested g }

pub sound_from_empty : SoundFromEmpty
sound_from_empty limit h cs = left_keeps next Sound (λ t c s. sound_next c s) cs (empty_sound limit h)

-- ---- formed entries

built_formed : {b : Binding} → Built b → formed b ≡ true
unfolding formed
built_formed (group endpoint cluster g) = refl
built_formed (device endpoint cluster a to) = refl

-- only formed entries are held after a step
formed_step :
    {limit : ℕ} {xs : List Binding} {c : Call} {s : Step}
    → Stepped limit xs c s
    → BuiltCall c
    → all formed xs ≡ true
    → all formed s.entries ≡ true
formed_step (again b h) built f = f
formed_step (full b h e) built f = f
formed_step {xs = xs} (added b h room) built f = rw (all_last formed xs b, f, built_formed built)
formed_step {xs = xs} (removed b h) built f = all_without formed b xs f
formed_step (absent b h) built f = f

pub reached_next : {t : BindingTable} (c : Call) → BuiltCall c → Reached t → Reached (next t c)
reached_next {t} c built r =
    let g = sound_good r.sound in
    record { sound = sound_next c r.sound; all_formed = rw (next_held c g) (formed_step (step_cases t c) built r.all_formed) }

reached_after : {t : BindingTable} (cs : List Call) → AllBuilt cs → Reached t → Reached (after t cs)
unfolding left
reached_after [] built r = r
reached_after {t = t} (c ∷ cs) (first, rest) r = reached_after {t = next t c} cs rest (reached_next c first r)

pub reached_from_empty : ReachedFromEmpty
unfolding empty_table held all
reached_from_empty limit h cs built = reached_after cs built (record { sound = empty_sound limit h; all_formed = refl })
