-- `put_digits` meets its contract. The loop's invariant: the digits of the bytes before this one were put. Assumes nothing.
use Rattle.hex_lines.proofs.put_digits.Given as goal
use Rattle.hex_lines.proofs.Put.{Encoded}

abbrev pub invariant-loop-byte : goal.invariant-loop-byte
invariant-loop-byte l = Encoded l.bytes l.byte-index l.initial.out l.fn.at l.at l.out
