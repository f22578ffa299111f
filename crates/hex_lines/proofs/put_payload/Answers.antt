-- `put_payload` meets its contract: the bytes of the digits are put one behind the other. Assumes nothing.
use borrow.Author.Rules.{rules}
use Rattle.hex_lines.proofs.Put.{decoded_first, decoded_high, decoded_low, decoded_room, decoded_next, decoded_end}
use Rattle.hex_lines.proofs.put_payload.Goals as goal

ruleset laws = (rules, decoded_first, decoded_high, decoded_low, decoded_room, decoded_next, decoded_end)

pub loop-i-init : goal.loop-i-init
loop-i-init c = search laws

pub byte_of-requires-clause-high_bound : goal.byte_of-requires-clause-high_bound
byte_of-requires-clause-high_bound c = search laws

pub byte_of-requires-clause-low_bound : goal.byte_of-requires-clause-low_bound
byte_of-requires-clause-low_bound c = search laws

pub bounds-out-i : goal.bounds-out-i
bounds-out-i c = decoded_room c.in-Some.pair.now c.next.new.self.iter.rest.now c.loop-i.invariant (search rules) (search rules) _ (search rules) (search rules)

pub loop-i-preserved : goal.loop-i-preserved
loop-i-preserved c = decoded_next c.in-Some.pair.now _ c.loop-i.invariant (search rules) (search rules) _ _ _ _ (search rules) (search rules) (search rules) (search rules)

pub returns : goal.returns
returns c = decoded_end c.loop-i.invariant (search rules)
