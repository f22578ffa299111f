-- Document 01, "Refusal numbers".
use Rattle.std.specs.Prelude.{ℕ}
use Rattle.zigbee_types.specs.declared.Refusal.{Refusal}
use Rattle.zigbee_types.specs.declared.Refusal.TheVariants.{BadTables, UnknownCluster, Malformed, TooManyClusters, ShortBuffer}

-- the number of a refusal
abbrev pub refusal_number : Refusal → ℕ
refusal_number BadTables = 1
refusal_number UnknownCluster = 2
refusal_number Malformed = 3
refusal_number TooManyClusters = 4
refusal_number ShortBuffer = 5
