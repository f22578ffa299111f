-- `parse_addr_of_interest_req` meets its contract: two fields are read one behind the other. Assumes nothing.
use native.Mathlib.Omega.{arith}
use mathlib.Core.Path.{refl}
use Rattle.zigbee_types.specs.Layout.{size}
use Rattle.zigbee_types.proofs.Runs.{two_parse}
use Rattle.zdo_requests.specs.Requests.{addr_of_interest_widths, addr_of_interest_req_in}
use Rattle.zigbee_types.specs.Answers.{says}
use Rattle.zdo_requests.proofs.descriptor.parse_addr_of_interest_req.Goals as goal

pub returns : goal.returns
unfolding size addr_of_interest_widths addr_of_interest_req_in says
returns c = two_parse _ c.read-seq.ensures c.read-nwk_addr_of_interest.ensures (omega arith) refl
