-- `within` meets its contract: the list ends within the bytes if half of what is behind its start is enough. Assumes nothing.
use Rattle.zdo_matching.proofs.Matches.{within_past, within_half}
use Rattle.zdo_matching.proofs.descriptor.within.Goals as goal

pub returns-then-list-length : goal.returns-then-list-length
returns-then-list-length c = search within_past

pub returns : goal.returns
returns c = search within_half
