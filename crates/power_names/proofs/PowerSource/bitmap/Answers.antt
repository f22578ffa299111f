-- `PowerSource::bitmap` is the union of the sources. The loop's invariant: the bits are the union of the sources passed. Assumes
-- nothing.
use borrow.Author.Rules.{rules}
use Rattle.power_names.proofs.Union.{gathering_first, gathering_next, gathering_end}
use Rattle.power_names.proofs.PowerSource.bitmap.Goals as goal

ruleset laws = (rules, gathering_first, gathering_next, gathering_end)

pub loop-source-init : goal.loop-source-init
loop-source-init c = search laws

pub loop-source-preserved : goal.loop-source-preserved
loop-source-preserved c = search laws
