-- Which bits a union of sources has, as a statement. A term of it stands in proofs/.
use Rattle.std.specs.Prelude.{ℕ, ◌≡◌, ◌&&◌, List, ltb}
use Rattle.zigbee_types.specs.Bytes.{bit_at}
use Rattle.zigbee_types.specs.Lists.{any}
use Rattle.power_names.specs.Names.{source_bitmap}

-- document 01, module 3: a bit is set in the union of sources exactly if it is one of the low four and some source has it
abbrev pub BitmapUnion : Type 0
BitmapUnion = (i : ℕ) (xs : List ℕ) → bit_at i (source_bitmap xs) ≡ (ltb i 4 && any (bit_at i) xs)
