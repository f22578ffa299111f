-- `write_line` meets its contract: too short a buffer is refused; otherwise the cluster, the space and the bytes are put.
-- Assumes nothing.
use native.Mathlib.Omega.{arith}
use borrow.Author.Rules.{rules}
use Rattle.hex_lines.specs.Hex.{digits_of}
use Rattle.hex_lines.proofs.Line.{line_full, line_same, line_room, line_written}
use Rattle.hex_lines.proofs.write_line.Goals as goal

ruleset laws = (rules, line_same, line_room, line_written)

pub returns-then-out-lt-FRONT : goal.returns-then-out-lt-FRONT
unfolding digits_of
returns-then-out-lt-FRONT c = line_full _ _ (omega arith)

pub returns-then-out-bytes : goal.returns-then-out-bytes
unfolding digits_of
returns-then-out-bytes c = line_full _ _ (omega arith)

pub put_pair-at-requires-2 : goal.put_pair-at-requires-2
unfolding digits_of
put_pair-at-requires-2 c = search laws

pub bounds-out-at : goal.bounds-out-at
unfolding digits_of
bounds-out-at c = search laws

pub overflow_add-at : goal.overflow_add-at
unfolding digits_of
overflow_add-at c = search laws

pub put_digits-requires : goal.put_digits-requires
unfolding digits_of
put_digits-requires c = search laws

pub returns : goal.returns
unfolding digits_of
returns c = search laws
