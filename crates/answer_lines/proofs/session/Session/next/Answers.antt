-- `Session::next` meets its contract: without room, and with it. Assumes nothing.
use native.Mathlib.Omega.{arith}
use borrow.Author.Rules.{rules}
use Rattle.answer_lines.proofs.Turns.{turn_none, turn_made}
use Rattle.answer_lines.proofs.session.Session.next.Goals as goal

ruleset laws = (rules, turn_made)

pub returns-then-out-lt-TEXT : goal.returns-then-out-lt-TEXT
returns-then-out-lt-TEXT c = turn_none _ _ _ _ (omega arith)

pub returns : goal.returns
returns c = search laws
