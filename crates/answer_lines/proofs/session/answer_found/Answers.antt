-- `answer_found` meets its contract, for each thing that is found. Assumes nothing.
use borrow.Author.Rules.{rules}
use Rattle.answer_lines.proofs.Found.{front_short, text_place, question_place, found_none, found_long, found_line_lem}
use Rattle.answer_lines.proofs.session.answer_found.Goals as goal

ruleset laws = (rules, front_short, text_place, question_place, found_none, found_long, found_line_lem)

pub end_line-requires : goal.end_line-requires
end_line-requires c = search laws

pub end_line-requires-in-Overlong : goal.end_line-requires-in-Overlong
end_line-requires-in-Overlong c = search laws

pub returns-in-Line : goal.returns-in-Line
returns-in-Line c = search laws

pub returns-in-Overlong : goal.returns-in-Overlong
returns-in-Overlong c = search laws

pub returns-in-Nothing : goal.returns-in-Nothing
returns-in-Nothing c = search laws
