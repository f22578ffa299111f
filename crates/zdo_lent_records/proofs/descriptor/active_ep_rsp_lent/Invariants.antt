-- `active_ep_rsp_lent`: header and count stand there, and behind them the numbers of the records so far. Assumes nothing.
use Rattle.zdo_device_rsp.proofs.Active.{Listed}
use Rattle.zdo_lent_records.proofs.descriptor.active_ep_rsp_lent.Given as goal

abbrev pub invariant-loop-ep : goal.invariant-loop-ep
invariant-loop-ep l = Listed l.endpoints l.ep-index l.initial.out l.initial.at l.at l.out
