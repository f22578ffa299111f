-- `active_ep_rsp_lent` meets its contract. Assumes nothing.
use Rattle.std.proofs.Common.{rules}
use Rattle.std.proofs.lemmas.List.{length-reverse}
use Rattle.zdo_device_rsp.proofs.Active.{listed_room, listed_next}
use Rattle.zdo_lent_records.proofs.Listing.{run_refused, run_begun, run_listed}
use Rattle.zdo_lent_records.proofs.descriptor.active_ep_rsp_lent.Goals as goal

-- (`length-reverse`: a list in reverse is refused as one in order is, so that the wrong list shows at what is listed.)
ruleset laws = (rules, listed_room, listed_next, run_refused, run_begun, run_listed, length-reverse)

pub returns-in_err-at : goal.returns-in_err-at
returns-in_err-at c = let w = c.in_err-at.ensures in search laws

pub loop-ep-init : goal.loop-ep-init
loop-ep-init c = let w = c.in_ok-at.ensures in search laws

pub write-at-requires : goal.write-at-requires
write-at-requires c = search laws

pub loop-ep-preserved : goal.loop-ep-preserved
loop-ep-preserved c = search laws

pub returns : goal.returns
returns c = let w = c.in_ok-at.ensures in search laws
