-- `next` meets its contract. The loop's invariant: what is left to do is what the whole is. Assumes nothing.
use borrow.Author.Rules.{rules}
use Rattle.lines.proofs.Taken.{going_first, going_next, going_found, going_end}
use Rattle.lines.proofs.splitter.Splitter.next.Goals as goal

ruleset laws = (rules, going_first, going_next)

pub loop-taken-init : goal.loop-taken-init
loop-taken-init c = search laws

pub returns-then-character-eq10 : goal.returns-then-character-eq10
returns-then-character-eq10 c = going_found c.loop-taken.invariant (search rules) _ c.behind-rest.ensures (search rules) c.ended.ensures

pub loop-taken-preserved : goal.loop-taken-preserved
loop-taken-preserved c = search laws

pub returns : goal.returns
returns c = going_end c.loop-taken.invariant _ c.behind-rest.ensures (search rules)
