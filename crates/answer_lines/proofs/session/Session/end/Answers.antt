-- `Session::end` meets its contract: the text is copied. Assumes nothing.
use borrow.Author.Rules.{rules}
use Rattle.answer_lines.proofs.Closing.{copy_within, copy_long}
use Rattle.answer_lines.proofs.Turns.{turn_last}
use Rattle.answer_lines.proofs.session.Session.end.Goals as goal

ruleset laws = (rules, copy_within, copy_long, turn_last)

pub slice_bounds-text-end : goal.slice_bounds-text-end
slice_bounds-text-end c = search laws

pub slice_bounds-write_text-end : goal.slice_bounds-write_text-end
slice_bounds-write_text-end c = search laws

pub returns : goal.returns
returns c = search laws
