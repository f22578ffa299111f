-- Addresses as fields. IEEE, short and group addresses are kept apart (document 01, module 1).
use Rattle.std.specs.Prelude.{ℕ, Bool, eqb}
use Rattle.zigbee_types.specs.Layout.{Field, word}
use Rattle.zigbee_types.specs.declared.IeeeAddress.{IeeeAddress}
use Rattle.zigbee_types.specs.declared.ShortAddress.{ShortAddress}
use Rattle.zigbee_types.specs.declared.GroupAddress.{GroupAddress}

-- an IEEE address takes eight bytes
abbrev pub ieee : IeeeAddress → Field
ieee a = record { width = 8; value = a.0 }

-- a short address takes two
abbrev pub short : ShortAddress → Field
short a = word a.0

-- the IEEE address that a number names
abbrev pub ieee_of : ℕ → IeeeAddress
ieee_of n = record { 0 = n }

-- the short address that a number names
abbrev pub short_of : ℕ → ShortAddress
short_of n = record { 0 = n }

-- the group address that a number names
abbrev pub group_of : ℕ → GroupAddress
group_of n = record { 0 = n }

-- are two IEEE addresses one?
abbrev pub same_ieee : IeeeAddress → IeeeAddress → Bool
same_ieee a b = eqb a.0 b.0

-- are two short addresses one?
abbrev pub same_short : ShortAddress → ShortAddress → Bool
same_short a b = eqb a.0 b.0
