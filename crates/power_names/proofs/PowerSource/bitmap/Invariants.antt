-- `PowerSource::bitmap` is the union of the sources. The loop's invariant: the bits are the union of the sources passed. Assumes
-- nothing.
use Rattle.power_names.proofs.PowerSource.bitmap.Given as goal
use Rattle.power_names.proofs.Union.{Gathering}

abbrev pub invariant-loop-source : goal.invariant-loop-source
invariant-loop-source l = Gathering l.sources l.source-index l.bits
