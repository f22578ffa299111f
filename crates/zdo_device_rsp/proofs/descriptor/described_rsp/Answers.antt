-- `described_rsp` meets its contract: the descriptor stands in the scratch, and is handed on; or its writer refused. Assumes nothing.
use borrow.Author.Rules.{rules}
use Rattle.zdo_device_rsp.proofs.Described.{desc_stands, desc_within, desc_long, desc_replied, desc_refused}
use Rattle.zdo_device_rsp.proofs.descriptor.described_rsp.Goals as goal

ruleset laws = (rules, desc_within, desc_long, desc_stands, desc_replied, desc_refused)

pub slice_bounds-desc-end : goal.slice_bounds-desc-end
slice_bounds-desc-end c = let w = c.in_ok-len.ensures in search laws

pub slice_bounds-list_rsp-end : goal.slice_bounds-list_rsp-end
slice_bounds-list_rsp-end c = let w = c.in_ok-len.ensures in search laws

pub returns : goal.returns
returns c = let w = c.in_ok-len.ensures in search laws

pub returns-in_err-len : goal.returns-in_err-len
returns-in_err-len c = let w = c.in_err-len.ensures in search laws
