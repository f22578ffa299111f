-- The entry that a request to bind or unbind names, for each destination. Assumes nothing.
use Prim.Native.Nat.{ℕ}
use mathlib.Core.Path.{◌≡◌}
use Rattle.zigbee_types.specs.declared.GroupAddress.{GroupAddress}
use Rattle.zigbee_types.specs.declared.IeeeAddress.{IeeeAddress}
use Rattle.aps_binding.specs.Entry.{group_binding, device_binding}
use Rattle.aps_binding.specs.declared.binding.Binding.{Binding}
use Rattle.zdo_requests.specs.Requests.{binding_to, binding_of}
use Rattle.zdo_requests.specs.declared.descriptor.BindReq.{BindReq}
use Rattle.zdo_requests.specs.declared.descriptor.BindReqDestination.TheVariants.{Group, Device}

module _ (q : BindReq) {b : Binding} where
  pub to_group : {g : GroupAddress} → q.destination ≡ Group g → b ≡ group_binding q.src_endpoint q.cluster_id g → b ≡ binding_of q
  unfolding binding_of binding_to
  to_group e is = rw e is

  pub to_device :
      {a : IeeeAddress} {n : ℕ}
      → q.destination ≡ Device a n
      → b ≡ device_binding q.src_endpoint q.cluster_id a n
      → b ≡ binding_of q
  unfolding binding_of binding_to
  to_device e is = rw e is
