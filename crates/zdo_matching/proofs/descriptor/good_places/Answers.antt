-- `good_places` meets its contract: each test is one of the two. Assumes nothing.
use Rattle.zdo_matching.specs.Matching.{good_places}
use Rattle.zdo_matching.proofs.descriptor.good_places.Goals as goal

pub returns : goal.returns
unfolding good_places
returns c = rw (← c.within.ensures, ← c.within-2.ensures)
