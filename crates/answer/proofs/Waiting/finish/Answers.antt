-- `Waiting::finish` is safe: the last lines end within the buffer. Assumes nothing.
use native.Mathlib.Omega.{arith}
use Rattle.std.proofs.Common.{rules}
use Rattle.answer.proofs.Behind.{told_ok, put_fits, put_within}
use Rattle.answer.proofs.Waiting.finish.Goals as goal

pub overflow_add-self : goal.overflow_add-self
overflow_add-self g c =
    put_fits _
    c.args.self.now.end
    c.in-Ok.n
    _
    c.args.self.now.buffer
    (search rules)
    (search rules)
    c.end-written.ensures
    (told_ok _ c.in-Ok.is)
    (omega arith)

pub invariant_of-self : goal.invariant_of-self
invariant_of-self g c = search (rules, told_ok, put_within)
