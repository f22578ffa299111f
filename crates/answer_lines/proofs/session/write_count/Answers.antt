-- `write_count` meets its contract: the digits stand behind the word, and are not refused. Assumes nothing.
use borrow.Author.Rules.{rules}
use Rattle.answer_lines.proofs.Closing.{count_fits, count_written}
use Rattle.answer_lines.proofs.session.write_count.Goals as goal

ruleset laws = (rules, count_fits, count_written)

pub overflow_add-result : goal.overflow_add-result
overflow_add-result c = search laws

pub returns : goal.returns
returns c = search laws
