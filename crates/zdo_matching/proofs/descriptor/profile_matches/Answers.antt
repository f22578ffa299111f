-- `profile_matches` meets its contract: each test is one of the two. Assumes nothing.
use mathlib.Core.Path.{refl}
use Rattle.zdo_matching.specs.Matching.{profile_matches}
use Rattle.zdo_matching.proofs.descriptor.profile_matches.Goals as goal

pub returns : goal.returns
unfolding profile_matches
returns c = refl
