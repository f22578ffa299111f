-- `addr_rsp` meets its contract: the addresses are put, and two zeros behind them in an extended reply. Assumes nothing.
use borrow.Author.Rules.{rules}
use Rattle.zigbee_types.specs.Bytes.{le}
use Rattle.zigbee_types.specs.Layout.{laid}
use Rattle.zdo_replies.specs.Replies.{addr_header}
use Rattle.zdo_addr_rsp.proofs.Written.{addr_single, extended_full, extended_writes}
use Rattle.zdo_addr_rsp.proofs.descriptor.addr_rsp.Goals as goal

ruleset laws = (rules, addr_single, extended_full, extended_writes)

pub returns-then-not-extended : goal.returns-then-not-extended
unfolding laid le addr_header
returns-then-not-extended c = search laws

pub returns-then-out-lt14 : goal.returns-then-out-lt14
unfolding laid le addr_header
returns-then-out-lt14 c = search laws

pub write-at-requires : goal.write-at-requires
unfolding laid le addr_header
write-at-requires c = search laws

pub write-at-requires-2 : goal.write-at-requires-2
unfolding laid le addr_header
write-at-requires-2 c = search laws

pub returns : goal.returns
unfolding laid le addr_header
returns c = search laws
