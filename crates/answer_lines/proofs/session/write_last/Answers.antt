-- `write_last` meets its contract: the number behind the answer. Assumes nothing.
use borrow.Author.Rules.{rules}
use Rattle.answer_lines.proofs.Closing.{last_start, last_room, last_fits, last_written}
use Rattle.answer_lines.proofs.session.write_last.Goals as goal

ruleset laws = (rules, last_start, last_room, last_fits, last_written)

pub slice_bounds-write_closing-count : goal.slice_bounds-write_closing-count
slice_bounds-write_closing-count c = search laws

pub slice_bounds-write_closing-start : goal.slice_bounds-write_closing-start
slice_bounds-write_closing-start c = search laws

pub write_closing-requires : goal.write_closing-requires
write_closing-requires c = search laws

pub overflow_add-result : goal.overflow_add-result
overflow_add-result c = search laws

pub returns : goal.returns
returns c = search laws
