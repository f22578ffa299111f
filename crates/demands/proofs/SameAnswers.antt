-- A run of records and a device that holds it get the same answers: their outcomes are one. Assumes nothing.
use Prim.Native.Nat.{ℕ, ◌≤◌, ◌<◌}
use native.Mathlib.Omega.{arith}
use mathlib.Core.Path.{◌≡◌, refl, sym, ◌∙◌}
use mathlib.Core.Bool.{Bool, true, false}
use mathlib.Core.List.{List, ◌++◌}
use lib.Dec.{leb}
use lib.ListN.{length, take, length-append, length-take}
use lib.Seq.{take_all, take-take, take-append-le, take-append_seam, length-take-le}
use borrow.Author.Tests.{leb-true, leb-false}
use Rattle.zigbee_types.specs.declared.ShortAddress.{ShortAddress}
use Rattle.zdo_requests.specs.declared.descriptor.MatchDescReq.{MatchDescReq}
use Rattle.zdo_device.specs.Tables.{Pools, used, good_sizes, good_records, good_device}
use Rattle.zdo_device.specs.declared.descriptor.EndpointDescriptor.{EndpointDescriptor}
use Rattle.zdo_device.specs.declared.descriptor.DeviceDescriptorConfig.{DeviceDescriptorConfig}
use Rattle.zdo_matching.specs.Matching.{matched_records, matching_endpoints}
use Rattle.zdo_device_rsp.specs.TableReplies.{active_records, active_ep_rsp}
use Rattle.demands.specs.SameAnswers.{Holds, holding, SameAnswers}
use Rattle.demands.proofs.OneAnswer.{one_answer}

module _ {d : DeviceDescriptorConfig} {run : List EndpointDescriptor} (h : Holds d run) where
  -- where the count is at most 32, the records in use are the run
  whole : length run ≤ 32 → used d ≡ run
  whole few = h.held ∙ take_all 32 run few

  same_good : (p : Pools) → good_records p run ≡ good_device p d
  unfolding good_device good_records good_sizes
  same_good p = go (leb (length run) 32) refl
    where
      go : (t : Bool) → leb (length run) 32 ≡ t → good_records p run ≡ good_device p d
      go true few = rw (whole (leb-true _ _ few), h.counted, few)
      go false many = rw (h.counted, many)

  same_matching : (p : Pools) (q : MatchDescReq) (payload : List ℕ) → matched_records p run q payload ≡ matching_endpoints p d q payload
  unfolding matched_records matching_endpoints good_device good_records good_sizes
  same_matching p q payload = go (leb (length run) 32) refl
    where
      go : (t : Bool) → leb (length run) 32 ≡ t → matched_records p run q payload ≡ matching_endpoints p d q payload
      go true few = rw (whole (leb-true _ _ few), h.counted, few)
      go false many = rw (h.counted, many)

  same_active : (seq : ℕ) (a : ShortAddress) → active_records seq a run ≡ active_ep_rsp seq a d
  unfolding active_records active_ep_rsp
  same_active seq a = go (leb (length run) 32) refl
    where
      go : (t : Bool) → leb (length run) 32 ≡ t → active_records seq a run ≡ active_ep_rsp seq a d
      go true few = rw (whole (leb-true _ _ few), h.counted, few)
      go false many = rw (h.counted, many)

-- the records in use of a device with a run in their place
in_place : (d : DeviceDescriptorConfig) (run : List EndpointDescriptor) → used (holding d run) ≡ take 32 run
unfolding used holding
in_place d run = go (leb (length run) 32) refl
  where
    go : (t : Bool) → leb (length run) 32 ≡ t → take (length run) (take 32 (run ++ d.endpoints)) ≡ take 32 run
    go true few = rw (take-take (length run) 32 (run ++ d.endpoints) (leb-true _ _ few), take-append_seam run d.endpoints, take_all 32 run (leb-true _ _ few))
    go false many =
        let more : 32 < length run = leb-false _ _ many in
        rw (take-append-le 32 run d.endpoints (omega arith), take_all (length run) (take 32 run) (rw length-take (omega arith)))

-- those of a device, where its count is at most 32
own_held : (d : DeviceDescriptorConfig) → length d.endpoints ≡ 32 → d.endpoint_count ≤ 32 → Holds d (used d)
unfolding used
own_held d long few =
    let counts : length (take d.endpoint_count d.endpoints) ≡ d.endpoint_count = length-take-le _ d.endpoints (rw long few) in
    record { counted = sym counts; held = sym (take_all 32 (take d.endpoint_count d.endpoints) (rw counts few)) }

pub same_answers : SameAnswers
unfolding holding
same_answers =
    record {
      good = λ d run p h. same_good h p;
      found = λ d run p q payload h. same_matching h p q payload;
      listed = λ d run seq a h. same_active h seq a;
      matching = λ d run p q payload before r s after later h lent valued. one_answer.matcher _ before r s after later lent (rw (same_matching h p q payload) valued);
      active = λ d run seq a before r s after later h lent valued. one_answer.writer _ before r s after later lent (rw (same_active h seq a) valued);
      each = λ d run long. (record { counted = refl; held = in_place d run }, rw (length-take, length-append, long) (omega arith));
      own = own_held;
    }
