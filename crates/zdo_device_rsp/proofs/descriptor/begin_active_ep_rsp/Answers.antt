-- `begin_active_ep_rsp` meets its contract, at each of its ways out. Assumes nothing.
use borrow.Author.Rules.{rules}
use Rattle.zdo_desc_rsp.proofs.Written.{header_place}
use Rattle.zdo_device_rsp.proofs.Active.{begun_many, begun_full, begun_writes}
use Rattle.zdo_device_rsp.proofs.descriptor.begin_active_ep_rsp.Goals as goal

ruleset laws = (rules, begun_many, begun_full, begun_writes)

pub returns-then-out-count : goal.returns-then-out-count
returns-then-out-count c = search laws

pub write-at-requires : goal.write-at-requires
write-at-requires c = let at = header_place _ _ _ c.write_header-at.ensures in search laws

pub returns : goal.returns
returns c = search laws

pub returns-then-count-gt32 : goal.returns-then-count-gt32
returns-then-count-gt32 c = search laws
