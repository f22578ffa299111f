-- `next` meets its contract. The loop's invariant: what is left to do is what the whole is. Assumes nothing.
use Rattle.lines.specs.Splitter.{pending}
use Rattle.lines.proofs.Taken.{Going}
use Rattle.lines.proofs.splitter.Splitter.next.Given as goal

abbrev pub invariant-loop-taken : goal.invariant-loop-taken
invariant-loop-taken l = Going (pending l.initial.count l.initial.line) l.rest l.taken (pending l.count l.line)
