-- What is written as a line reads back, as statements. A term of each stands in proofs/.
use Rattle.std.specs.Prelude.{ℕ, ◌^◌, ◌<◌, ◌≡◌, true, List, length, Some}
use Rattle.zigbee_types.specs.FieldLaws.{are_bytes}
use Rattle.hex_lines.specs.Hex.{bytes_in, digits_of}
use Rattle.hex_lines.specs.RequestLine.{request_in, hex_line}

-- bytes that are written as digits read back
abbrev pub DigitsReadBack : Type 0
DigitsReadBack = (bytes : List ℕ) → are_bytes bytes ≡ true → bytes_in (digits_of bytes) ≡ bytes

-- a line that is written reads back as its cluster and bytes, if there is a byte
abbrev pub LineReadsBack : Type 0
LineReadsBack =
    (cluster : ℕ) (bytes : List ℕ)
    → cluster < 2 ^ 16
    → are_bytes bytes ≡ true
    → 0 < length bytes
    → request_in (hex_line cluster bytes) ≡ Some (record { cluster = cluster; payload = bytes })
