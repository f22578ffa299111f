-- `put_pair` meets its contract: two digits are put one behind the other. Assumes nothing.
use borrow.Author.Rules.{rules}
use Rattle.hex_lines.proofs.Put.{pair_room, pair_put}
use Rattle.hex_lines.proofs.put_pair.Goals as goal

ruleset laws = (rules, pair_room, pair_put)

pub returns : goal.returns
returns c = search laws
