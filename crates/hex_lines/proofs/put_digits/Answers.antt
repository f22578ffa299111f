-- `put_digits` meets its contract. At each byte its two digits are put. Assumes nothing.
use borrow.Author.Rules.{rules}
use Rattle.hex_lines.proofs.Put.{encoded_first, encoded_room, encoded_next, encoded_end}
use Rattle.hex_lines.proofs.put_digits.Goals as goal

ruleset laws = (rules, encoded_first, encoded_room, encoded_next, encoded_end)

pub loop-byte-init : goal.loop-byte-init
loop-byte-init c = search laws

pub loop-byte-preserved : goal.loop-byte-preserved
loop-byte-preserved c = search laws
