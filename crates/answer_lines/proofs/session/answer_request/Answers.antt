-- `answer_request` meets its contract: it writes what `dispatch` answered. Assumes nothing.
use borrow.Author.Rules.{rules}
use Rattle.answer_lines.proofs.Heard.{told_within, request_answered}
use Rattle.answer_lines.proofs.session.answer_request.Goals as goal

ruleset laws = (rules, told_within, request_answered)

pub write_response-requires : goal.write_response-requires
write_response-requires c = search laws

pub returns : goal.returns
returns c = search laws
