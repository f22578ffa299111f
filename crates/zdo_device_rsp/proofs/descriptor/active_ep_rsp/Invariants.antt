-- `active_ep_rsp` meets its contract. The loop's invariant: the numbers of the records so far were put. Assumes nothing.
use Rattle.zdo_device_rsp.proofs.Active.{Listed}
use Rattle.zdo_device_rsp.proofs.descriptor.active_ep_rsp.Given as goal

abbrev pub invariant-loop-ep : goal.invariant-loop-ep
invariant-loop-ep l = Listed l.ep-items l.ep-index l.initial.out l.initial.at l.at l.out
