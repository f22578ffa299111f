-- `Waiting::answer` meets its contract: the answer ends within the buffer, and a character is taken where there is one. Assumes nothing.
use native.Mathlib.Omega.{arith}
use mathlib.Core.Path.{refl}
use Rattle.std.proofs.Common.{rules}
use Rattle.answer.proofs.Behind.{put_fits, put_within, turn_moves}
use Rattle.answer.proofs.Waiting.answer.Goals as goal

pub overflow_add-self : goal.overflow_add-self
overflow_add-self c =
    put_fits _ c.args.self.now.end _ _ c.args.self.now.buffer (search rules) (search rules) c.next-turn.ensures.wrote refl (omega arith)

pub invariant_of-self : goal.invariant_of-self
invariant_of-self c = let w = c.next-turn.ensures.wrote in search (rules, put_within)

pub returns : goal.returns
returns c =
    let w = turn_moves _ _ c.args.self.now.end _ _ c.args.self.now.buffer (search rules) (search rules) c.next-turn.ensures in
    search (rules, w)
