-- `write_text` meets its contract: too short a buffer is refused, and otherwise the text is copied. Assumes nothing.
use borrow.Author.Rules.{rules}
use Rattle.answer_lines.proofs.Texts.{text_full, text_copied}
use Rattle.answer_lines.proofs.session.write_text.Goals as goal

ruleset laws = (rules, text_full, text_copied)

pub returns-then-out-text : goal.returns-then-out-text
returns-then-out-text c = search laws

pub returns : goal.returns
returns c = search laws
