-- `write_closing` meets its contract: a line feed behind the number. Assumes nothing.
use borrow.Author.Rules.{rules}
use Rattle.answer_lines.proofs.Closing.{closing_place, closing_fits, closing_written}
use Rattle.answer_lines.proofs.session.write_closing.Goals as goal

ruleset laws = (rules, closing_place, closing_fits, closing_written)

pub bounds-out-end : goal.bounds-out-end
bounds-out-end c = search laws

pub overflow_add-result : goal.overflow_add-result
overflow_add-result c = search laws

pub returns : goal.returns
returns c = search laws
