-- `parse_node_desc_rsp` meets its contract: three fields are read one behind the other, and the mask. Assumes nothing.
use borrow.Author.Rules.{rules}
use Rattle.zigbee_types.specs.Layout.{size}
use Rattle.zigbee_types.proofs.Runs.{run_short}
use Rattle.zdo_readers.proofs.Longer.{mask_parse}
use Rattle.zdo_readers.specs.Readers.{header_widths, node_desc_rsp_in}
use Rattle.zigbee_types.specs.Answers.{says}
use Rattle.zdo_readers.proofs.descriptor.parse_node_desc_rsp.Goals as goal

ruleset laws = (rules, run_short, mask_parse)

pub returns-then-asdu-lt4 : goal.returns-then-asdu-lt4
unfolding size header_widths node_desc_rsp_in says
returns-then-asdu-lt4 c = search laws

pub returns : goal.returns
unfolding size header_widths node_desc_rsp_in says
returns c = search laws
