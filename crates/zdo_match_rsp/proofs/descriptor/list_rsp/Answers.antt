-- `list_rsp` meets its contract: the header is put, then the count and the list. Assumes nothing.
use native.Mathlib.Omega.{arith}
use borrow.Author.Rules.{rules}
use Rattle.zigbee_types.specs.Bytes.{le}
use Rattle.zigbee_types.specs.Layout.{laid}
use Rattle.zdo_replies.specs.Replies.{header}
use Rattle.zdo_match_rsp.proofs.Written.{list_full, list_appended}
use Rattle.zdo_match_rsp.proofs.descriptor.list_rsp.Goals as goal

pub returns-then-out-list : goal.returns-then-out-list
unfolding laid le header
returns-then-out-list c = list_full _ _ _ _ (omega arith)

pub write-at-requires : goal.write-at-requires
unfolding laid le header
write-at-requires c = search rules

pub append-requires : goal.append-requires
unfolding laid le header
append-requires c = search rules

pub returns : goal.returns
unfolding laid le header
returns c = list_appended _ _ _ _ c.write_header-at.ensures c.count_byte.ensures c.write-at.ensures c.append.ensures (omega arith)
