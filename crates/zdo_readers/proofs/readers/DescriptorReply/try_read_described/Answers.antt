-- `DescriptorReply::try_read_described` meets its contract: the header, and what follows by its status. Assumes nothing.
use borrow.Author.Rules.{rules}
use mathlib.Core.Path.{refl}
use Rattle.std.proofs.iter.Serving.{serving}
use Rattle.zigbee_types.proofs.Passed.{passed_then}
use Rattle.zdo_readers.proofs.Headed.{header_long, described_none, described_made}
use Rattle.zdo_readers.specs.Readers.{descriptor_reply_in}
use Rattle.zigbee_types.specs.Answers.{says}
use Rattle.zdo_readers.proofs.readers.DescriptorReply.try_read_described.Goals as goal

ruleset laws = (rules, header_long)

pub returns-in_err-header : goal.returns-in_err-header
unfolding descriptor_reply_in
returns-in_err-header g c = passed_then _ _ c.in_err-header.ensures c.from_residual.ensures _

pub returns-then-header-ne-STATUS_SUCCESS : goal.returns-then-header-ne-STATUS_SUCCESS
unfolding says
returns-then-header-ne-STATUS_SUCCESS g c = described_none _ _ c.in_ok-header.ensures _ (search rules) refl

pub slice_bounds-try_read-count : goal.slice_bounds-try_read-count
slice_bounds-try_read-count g c = search laws

pub slice_bounds-try_read-start : goal.slice_bounds-try_read-start
slice_bounds-try_read-start g c = search laws

pub returns : goal.returns
unfolding says
returns g c = described_made _ _ c.in_ok-header.ensures _ (search rules) _ _ _ (search rules) (λ d x p. grind serving) c.map.ensures.cases
