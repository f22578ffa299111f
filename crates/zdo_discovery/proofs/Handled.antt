-- What is replied to a request about us, and to one about another device. Assumes nothing.
use Prim.Native.Nat.{ℕ, ◌≤◌}
use mathlib.Core.Path.{◌≡◌}
use mathlib.Core.Bool.{true, false}
use mathlib.Core.List.{List}
use borrow.Author.Tests.{ne_eqb, le-leb}
use Rattle.zigbee_types.specs.Outcome.{Outcome, Wrote}
use Rattle.zigbee_types.specs.Addresses.{ieee_of, short_of, same_ieee, same_short}
use Rattle.zigbee_types.specs.Statuses.{INV_REQUESTTYPE, DEVICE_NOT_FOUND}
use Rattle.zigbee_types.specs.declared.IeeeAddress.{IeeeAddress}
use Rattle.zigbee_types.specs.declared.ShortAddress.{ShortAddress}
use Rattle.node_descriptor.specs.declared.LogicalType.{LogicalType}
use Rattle.node_descriptor.specs.declared.LogicalType.TheVariants.{Coordinator, Router, EndDevice, Reserved}
use Rattle.zdo_requests.specs.declared.descriptor.NwkAddrReq.{NwkAddrReq}
use Rattle.zdo_requests.specs.declared.descriptor.IeeeAddrReq.{IeeeAddrReq}
use Rattle.zdo_replies.specs.Replies.{addr_rsp, addr_rsp_single}
use Rattle.zdo_device.specs.Tables.{used}
use Rattle.zdo_device.specs.declared.descriptor.DeviceDescriptorConfig.{DeviceDescriptorConfig}
use Rattle.zdo_device_rsp.specs.TableReplies.{active_rsp_of, active_ep_rsp}
use Rattle.zdo_discovery.specs.Discovery.{our_address, on_nwk_addr, on_ieee_addr, not_ours, about}

-- ---- addresses

module _ (long : IeeeAddress) (short : ShortAddress) {before after : List ℕ} {told : Outcome ℕ} where
  -- about us, by the type
  module _ (seq type : ℕ) where
    pub our_single : type ≡ 0 → Wrote (addr_rsp seq long short false) before told after → Wrote (our_address long short seq type) before told after
    unfolding our_address
    our_single e w = rw e w

    pub our_extended : type ≡ 1 → Wrote (addr_rsp seq long short true) before told after → Wrote (our_address long short seq type) before told after
    unfolding our_address
    our_extended e w = rw e w

    pub our_other :
        (type ≡ 0 → ⊥)
        → (type ≡ 1 → ⊥)
        → Wrote (addr_rsp_single seq INV_REQUESTTYPE long short) before told after
        → Wrote (our_address long short seq type) before told after
    unfolding our_address
    our_other a b w = rw (ne_eqb type 0 a, ne_eqb type 1 b) w

  -- by the long address that is asked for
  module _ (q : NwkAddrReq) where
    pub nwk_ours :
        true ≡ same_ieee q.ieee_addr long
        → Wrote (our_address long short q.seq q.request_type) before told after
        → Wrote (on_nwk_addr long short q) before told after
    unfolding on_nwk_addr
    nwk_ours e w = rw (← e) w

    pub nwk_other :
        false ≡ same_ieee q.ieee_addr long
        → Wrote (addr_rsp_single q.seq DEVICE_NOT_FOUND q.ieee_addr (short_of 0xFFFF)) before told after
        → Wrote (on_nwk_addr long short q) before told after
    unfolding on_nwk_addr
    nwk_other e w = rw (← e) w

  -- by the short address
  module _ (q : IeeeAddrReq) where
    pub ieee_ours :
        true ≡ same_short q.nwk_addr_of_interest short
        → Wrote (our_address long short q.seq q.request_type) before told after
        → Wrote (on_ieee_addr long short q) before told after
    unfolding on_ieee_addr
    ieee_ours e w = rw (← e) w

    pub ieee_other :
        false ≡ same_short q.nwk_addr_of_interest short
        → Wrote (addr_rsp_single q.seq DEVICE_NOT_FOUND (ieee_of 0xFFFF_FFFF_FFFF_FFFF) q.nwk_addr_of_interest) before told after
        → Wrote (on_ieee_addr long short q) before told after
    unfolding on_ieee_addr
    ieee_other e w = rw (← e) w

-- ---- descriptors and lists

-- the status for another short address, by the type
module _ {type : LogicalType} where
  pub of_coordinator : type ≡ Coordinator → DEVICE_NOT_FOUND ≡ not_ours type
  unfolding not_ours
  of_coordinator e = rw e

  pub of_router : type ≡ Router → DEVICE_NOT_FOUND ≡ not_ours type
  unfolding not_ours
  of_router e = rw e

  pub of_end_device : type ≡ EndDevice → INV_REQUESTTYPE ≡ not_ours type
  unfolding not_ours
  of_end_device e = rw e

  pub of_reserved : {n : ℕ} → type ≡ Reserved n → INV_REQUESTTYPE ≡ not_ours type
  unfolding not_ours
  of_reserved e = rw e

module _ (type : LogicalType) (own address : ShortAddress) (ours : Outcome (List ℕ)) (error : ℕ → Outcome (List ℕ)) {before after : List ℕ} {told : Outcome ℕ} where
  pub about_ours : true ≡ same_short address own → Wrote ours before told after → Wrote (about type own address ours error) before told after
  unfolding about
  about_ours e w = rw (← e) w

  pub about_other :
      {status : ℕ}
      → false ≡ same_short address own
      → status ≡ not_ours type
      → Wrote (error status) before told after
      → Wrote (about type own address ours error) before told after
  unfolding about
  about_other e is w = rw (← e, ← is) w

-- the active reply of a device with at most 32 records
pub active_counted :
    (seq : ℕ) (a : ShortAddress) (d : DeviceDescriptorConfig) {before after : List ℕ} {told : Outcome ℕ}
    → d.endpoint_count ≤ 32
    → Wrote (active_ep_rsp seq a d) before told after
    → Wrote (active_rsp_of seq a (used d)) before told after
unfolding active_ep_rsp
active_counted seq a d few w = rw (le-leb d.endpoint_count 32 few) at w
