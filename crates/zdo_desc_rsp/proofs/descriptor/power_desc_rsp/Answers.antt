-- `power_desc_rsp` meets its contract: the header is put, and the descriptor in the part behind it. Assumes nothing.
use native.Mathlib.Omega.{arith}
use borrow.Author.Rules.{rules}
use Rattle.zigbee_types.specs.Layout.{size}
use Rattle.node_power_descriptor.specs.PowerDescriptor.{power_descriptor_of}
use Rattle.zdo_replies.specs.Replies.{power_desc_rsp}
use Rattle.zdo_desc_rsp.proofs.Written.{header_place, described_full, described_told, described_fits, described_writes}
use Rattle.zdo_desc_rsp.proofs.descriptor.power_desc_rsp.Goals as goal

pub returns-then-out-lt6 : goal.returns-then-out-lt6
unfolding size power_descriptor_of power_desc_rsp
returns-then-out-lt6 c = described_full _ _ _ _ (omega arith)

pub slice_bounds-write-count : goal.slice_bounds-write-count
unfolding size power_descriptor_of power_desc_rsp
slice_bounds-write-count c = let at = header_place _ _ _ c.write_header-at.ensures in search rules

pub slice_bounds-write-start : goal.slice_bounds-write-start
unfolding size power_descriptor_of power_desc_rsp
slice_bounds-write-start c = let at = header_place _ _ _ c.write_header-at.ensures in search rules

pub returns-in_err-write : goal.returns-in_err-write
unfolding size power_descriptor_of power_desc_rsp
returns-in_err-write c =
    absurd (described_told _ _ _ c.write_header-at.ensures (omega arith) _ c.in_err-write.ensures)

pub overflow_add-result : goal.overflow_add-result
unfolding size power_descriptor_of
overflow_add-result c = described_fits _ _ _ c.write_header-at.ensures (omega arith) _ c.in_ok-write.ensures tt

pub returns : goal.returns
unfolding size power_descriptor_of power_desc_rsp
returns c = described_writes _ _ _ c.write_header-at.ensures (omega arith) _ c.in_ok-write.ensures
