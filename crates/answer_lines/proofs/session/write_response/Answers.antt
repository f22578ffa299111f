-- `write_response` meets its contract, for each answer. Assumes nothing.
use borrow.Author.Rules.{rules}
use Rattle.answer_lines.specs.Session.{response_text}
use Rattle.answer_lines.proofs.session.write_response.Goals as goal

pub returns-in-Ok-Reply : goal.returns-in-Ok-Reply
unfolding response_text
returns-in-Ok-Reply c = search rules

pub returns-in-Ok-Leave : goal.returns-in-Ok-Leave
unfolding response_text
returns-in-Ok-Leave c = search rules

pub returns-in-Err : goal.returns-in-Err
unfolding response_text
returns-in-Err c = search rules
