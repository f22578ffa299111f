-- `matching_endpoints_lent`: of the records so far those that match were written, as many as there was room for. Assumes nothing.
use Rattle.zdo_device.specs.Checked.{pools_of}
use Rattle.zdo_matching.specs.Matching.{wanted}
use Rattle.zdo_matching.proofs.Found.{Found}
use Rattle.zdo_lent_records.proofs.descriptor.matching_endpoints_lent.Given as goal

abbrev pub invariant-loop-ep : goal.invariant-loop-ep
invariant-loop-ep l =
    Found (wanted l.sought.request l.sought.payload.now) (pools_of l.lent) l.endpoints l.ep-index l.initial.out l.matched.written l.out
