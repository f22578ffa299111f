-- `match_desc_rsp_error` meets its contract: three fields are put one behind the other. Assumes nothing.
use borrow.Author.Rules.{rules}
use Rattle.zigbee_types.specs.Answers.{says}
use Rattle.zigbee_types.specs.Layout.{size}
use Rattle.zigbee_types.proofs.Runs.{run_put_none, run_put_more, run_put_told, run_writes}
use Rattle.zdo_replies.specs.Replies.{match_error_fields, match_desc_rsp_error}
use Rattle.zdo_match_rsp.proofs.descriptor.match_desc_rsp_error.Goals as goal

ruleset laws = (rules, run_put_none, run_put_more, run_put_told, run_writes)

pub returns : goal.returns
unfolding says size match_error_fields match_desc_rsp_error
returns c = search laws
