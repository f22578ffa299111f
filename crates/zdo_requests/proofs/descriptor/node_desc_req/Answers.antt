-- `node_desc_req` meets its contract: two fields are put one behind the other. Assumes nothing.
use native.Mathlib.Omega.{arith}
use Rattle.zigbee_types.specs.Answers.{says}
use Rattle.zigbee_types.specs.Layout.{size}
use Rattle.zigbee_types.proofs.Runs.{run_put_none, run_put_more, run_writes}
use Rattle.zdo_requests.specs.Requests.{addr_of_interest_fields, node_desc_req}
use Rattle.zdo_requests.proofs.descriptor.node_desc_req.Goals as goal

pub returns : goal.returns
unfolding says size addr_of_interest_fields node_desc_req
returns c = run_writes (run_put_more c.write-at.ensures (run_put_more c.write-at-2.ensures run_put_none)) (omega arith)
