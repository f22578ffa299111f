-- `write_refusal` meets its contract: `R` and a digit are the text. Assumes nothing.
use borrow.Author.Rules.{rules}
use Rattle.answer_lines.proofs.Texts.{refusal_fits, refusal_written}
use Rattle.answer_lines.proofs.session.write_refusal.Goals as goal

ruleset laws = (rules, refusal_fits, refusal_written)

pub returns : goal.returns
returns c = search laws
