-- `digit_count` meets its contract, by recursion on the quotient by ten. The measure is the number. Assumes nothing.
use Rattle.decimal.proofs.+digit_count.Given as goal

abbrev pub decreases-digit_count : goal.decreases-digit_count
decreases-digit_count l = l.n
