-- A frame as a table: the width of each field in bytes, beside its value. Reading goes by the table of the widths.
use Rattle.std.specs.Prelude.{ℕ, ◌+◌, ◌*◌, ◌%◌, ◌^◌, ◌≡◌, List, [], ◌∷◌, ◌++◌, map, length, get_or, replicate}
use Rattle.std.proofs.lemmas.List.Edits.{sets}
use Rattle.zigbee_types.specs.Outcome.{Outcome, needing}
use Rattle.zigbee_types.specs.Bytes.{le, number_at}
use Rattle.zigbee_types.specs.declared.Places.{Places}
use Rattle.zigbee_types.specs.declared.ClusterLists.{ClusterLists}

-- ---- writing

-- one field: its width in bytes, and its value
pub record Field : Type 0 where
  pub width : ℕ
  pub value : ℕ

-- a field of one byte
abbrev pub byte : ℕ → Field
byte x = record { width = 1; value = x }

-- a field of two bytes
abbrev pub word : ℕ → Field
word x = record { width = 2; value = x }

-- the bytes of fields, one field after the other
unfoldable pub laid : List Field → List ℕ
laid [] = []
laid (f ∷ fs) = le f.width f.value ++ laid fs

-- fields were put one behind the other from a place on: the place behind them, and the buffer with them in it
pub record FieldsPut (fs : List Field) (before : List ℕ) (at next : ℕ) (after : List ℕ) : Type 0 where
  pub moved : next ≡ at + length (laid fs)
  pub left : after ≡ sets before at (laid fs)

-- a field's value, cut to its width
unfoldable pub cut : Field → ℕ
cut f = f.value % 256 ^ f.width

-- ---- reading

-- how many bytes fields of these widths take
unfoldable pub size : List ℕ → ℕ
size [] = 0
size (w ∷ ws) = w + size ws

-- the numbers in fields of these widths, from a place on
unfoldable pub fields_at : List ℕ → List ℕ → ℕ → List ℕ
fields_at [] bytes at = []
fields_at (w ∷ ws) bytes at = number_at w bytes at ∷ fields_at ws bytes (at + w)

-- field i of a frame that begins with fields of these widths, counted from 0
abbrev pub field_of : List ℕ → List ℕ → ℕ → ℕ
field_of widths bytes i = get_or (fields_at widths bytes 0) i 0

-- what is made of a frame's fields; refusal 3 where the frame is shorter than they are
unfoldable pub parsed : {A : Type 0} → List ℕ → ((ℕ → ℕ) → A) → List ℕ → Outcome A
parsed widths make bytes = needing (size widths) bytes (make (field_of widths bytes))

-- ---- lists in a frame

-- an entry of w bytes
abbrev pub entry : ℕ → ℕ → Field
entry w x = record { width = w; value = x }

-- a list of at most 255 entries as fields: how many, in one byte, then w bytes for each
unfoldable pub listed : ℕ → List ℕ → List Field
listed w xs = byte (length xs) ∷ map (entry w) xs

-- the list whose count is the byte at a place: it stands behind that byte. Where there is no such byte, the count is 0 and the
-- list begins past the end.
unfoldable pub counted : List ℕ → ℕ → Places
counted bytes at = record { start = at + 1; count = number_at 1 bytes at }

-- the place behind a list whose entries have w bytes each
unfoldable pub behind : ℕ → Places → ℕ
behind w p = p.start + w * p.count

-- a list was counted at a place, its entries of w bytes each: where it stands, and the place behind it
pub record ListRead (w : ℕ) (bytes : List ℕ) (at : ℕ) (list : Places) (next : ℕ) : Type 0 where
  pub told : list ≡ counted bytes at
  pub moved : next ≡ behind w list

-- the entries, of w bytes each
unfoldable pub entries_at : ℕ → List ℕ → Places → List ℕ
entries_at w bytes p = fields_at (replicate p.count w) bytes p.start

-- two lists of clusters, two bytes each: the first counted at a place, the second behind it; refusal 3 where the bytes end
-- before the second does
unfoldable pub lists_in : List ℕ → ℕ → Outcome ClusterLists
lists_in bytes at =
    let inputs = counted bytes at in
    let outputs = counted bytes (behind 2 inputs) in
    needing (behind 2 outputs) bytes (record { input_clusters = inputs; output_clusters = outputs })
