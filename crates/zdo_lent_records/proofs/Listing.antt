-- The active list over a run of records. Assumes nothing.
use Rattle.std.specs.Prelude.{Result, Ok, Err}
use Rattle.std.specs.Result.{IsErr, IsErrAnd}
use Prim.Native.Nat.{ℕ, ◌≤◌}
use mathlib.Core.Path.{◌≡◌, refl}
use mathlib.Core.List.{List}
use lib.ListN.{length}
use Rattle.zigbee_types.specs.Outcome.{Wrote}
use Rattle.zigbee_types.specs.Answers.{says}
use Rattle.zigbee_types.specs.declared.Refusal.{Refusal}
use Rattle.zigbee_types.specs.declared.ShortAddress.{ShortAddress}
use Rattle.zigbee_types.proofs.Passed.{passed}
use Rattle.zdo_device.specs.declared.descriptor.EndpointDescriptor.{EndpointDescriptor}
use Rattle.zdo_device_rsp.specs.TableReplies.{active_begun, active_records}
use Rattle.zdo_device_rsp.proofs.Active.{begun_room, begun_refused, Listed, listed_first, listed_end}

module _ (seq : ℕ) (a : ShortAddress) (records : List EndpointDescriptor) {before after : List ℕ} where
  -- refused as the beginning is
  pub run_refused :
      (r : Result ℕ Refusal) (why : Refusal) {n : ℕ}
      → n ≡ length records
      → Wrote (active_begun seq a n (length before)) before (says (Err why)) after
      → IsErr r × IsErrAnd r (λ e. e ≡ why)
      → Wrote (active_records seq a records) before (says r) after
  unfolding active_records says
  run_refused r why as_many w is = rw (passed r why is) (begun_refused seq a (length records) before records (λ few. refl) (rw as_many at w))

  module _ {from : ℕ} (w : Wrote (active_begun seq a (length records) (length before)) before (says (Ok from)) after) where
    -- of none, behind the beginning
    pub run_begun : Listed records 0 after from from after
    unfolding says
    run_begun = listed_first records (begun_room seq a (length records) before w)

    -- of all of them
    pub run_listed :
        {i at : ℕ} {t : List ℕ} → Listed records i after from at t → length records ≤ i → Wrote (active_records seq a records) before (says (Ok at)) t
    unfolding active_records says
    run_listed l h = listed_end l seq a (length records) refl w h
