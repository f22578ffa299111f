-- `read_group` meets its contract: two bytes are read. Assumes nothing.
use native.Mathlib.Omega.{arith}
use borrow.Author.Rules.{rules}
use Rattle.zdo_bind_req.proofs.Parsed.{group_short, group_read}
use Rattle.zdo_bind_req.proofs.descriptor.read_group.Goals as goal

ruleset laws = (rules, group_read)

pub returns-then-asdu-at : goal.returns-then-asdu-at
returns-then-asdu-at c = group_short _ _ (omega arith)

pub returns : goal.returns
returns c = search laws
