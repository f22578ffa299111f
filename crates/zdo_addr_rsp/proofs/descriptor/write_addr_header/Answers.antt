-- `write_addr_header` meets its contract: four fields are put one behind the other. Assumes nothing.
use borrow.Author.Rules.{rules}
use Rattle.zigbee_types.proofs.Runs.{run_put_one, run_put_more}
use Rattle.zdo_replies.specs.Replies.{addr_header}
use Rattle.zdo_addr_rsp.proofs.descriptor.write_addr_header.Goals as goal

ruleset laws = (rules, run_put_one, run_put_more)

pub returns : goal.returns
unfolding addr_header
returns c = search laws
