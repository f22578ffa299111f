-- `end_line` meets its contract: behind a text that was written. Assumes nothing.
use borrow.Author.Rules.{rules}
use Rattle.answer_lines.proofs.Ends.{end_place, end_fits, end_put, end_refused}
use Rattle.answer_lines.proofs.session.end_line.Goals as goal

ruleset laws = (rules, end_place, end_fits, end_put, end_refused)

pub bounds-out-n : goal.bounds-out-n
bounds-out-n c = search laws

pub overflow_add-result : goal.overflow_add-result
overflow_add-result c = search laws

pub returns-in-Ok : goal.returns-in-Ok
returns-in-Ok c = search laws

pub returns-in-Err : goal.returns-in-Err
returns-in-Err c = search laws
