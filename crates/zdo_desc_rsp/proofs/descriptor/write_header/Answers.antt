-- `write_header` meets its contract: three fields are put one behind the other. Assumes nothing.
use borrow.Author.Rules.{rules}
use Rattle.zigbee_types.proofs.Runs.{run_put_one, run_put_more}
use Rattle.zdo_replies.specs.Replies.{header}
use Rattle.zdo_desc_rsp.proofs.descriptor.write_header.Goals as goal

ruleset laws = (rules, run_put_one, run_put_more)

pub returns : goal.returns
unfolding header
returns c = search laws
