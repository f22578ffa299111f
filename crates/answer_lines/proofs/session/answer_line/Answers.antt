-- `answer_line` meets its contract: a request is answered, and any other line is not heard. Assumes nothing.
use borrow.Author.Rules.{rules}
use Rattle.answer_lines.proofs.Parsed.{payload_within, payload_long, line_heard, line_unheard, request_told, none_told}
use Rattle.answer_lines.proofs.session.answer_line.Goals as goal

ruleset laws = (rules, payload_within, payload_long, line_heard, line_unheard, request_told, none_told)

pub slice_bounds-payload-end : goal.slice_bounds-payload-end
slice_bounds-payload-end c = search laws

pub slice_bounds-answer_request-end : goal.slice_bounds-answer_request-end
slice_bounds-answer_request-end c = search laws

pub returns-in-Some : goal.returns-in-Some
returns-in-Some c = search laws

pub returns-in-None : goal.returns-in-None
returns-in-None c = search laws
