-- `answer_chunk` is safe and ends. The measure is how many characters of the chunk are left. Assumes nothing.
use Rattle.std.proofs.Common.{length, ◌-◌}
use Rattle.answer.proofs.answer_chunk.Given as goal

abbrev pub decreases-loop-at : goal.decreases-loop-at
decreases-loop-at g l = length l.chunk - l.at
