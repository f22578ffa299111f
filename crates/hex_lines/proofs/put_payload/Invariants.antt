-- `put_payload` meets its contract. The loop's invariant: the bytes in front were put, and what is left makes the whole. Assumes
-- nothing.
use Rattle.hex_lines.proofs.Put.{Decoded}
use Rattle.hex_lines.proofs.put_payload.Given as goal

abbrev pub invariant-loop-i : goal.invariant-loop-i
invariant-loop-i l = Decoded l.digits l.i-iterator.iter.rest.now l.i-iterator.iter.size l.i-iterator.count l.initial.out l.out
