-- The program `answer`: what it writes for an input, document 01's sample first. Inputs and outputs are texts.
use Rattle.std.specs.Prelude.{ℕ, List, [], ◌∷◌, ◌++◌, map, replicate}
use Prim.Native.Char.{code}
use Prim.Native.String.{String, [] as empty, ◌∷◌ as ◌then◌}
use Rattle.zigbee_types.specs.Outcome.{answer}
use Rattle.lines.specs.Chunks.{joined}
use Rattle.answer_lines.specs.Session.{answers}
use Rattle.demands.specs.Cases.{Case}

-- the characters of a text
abbrev pub typed : String → List ℕ
typed empty = []
typed (c then rest) = code c ∷ typed rest

-- lines of text, a line feed behind each
abbrev pub typed_lines : List String → List ℕ
typed_lines [] = []
typed_lines (line ∷ lines) = typed line ++ 10 ∷ typed_lines lines

-- the sample
unfoldable pub Sample : Case
Sample =
    record {
      says =
          answer (answers (typed_lines ("0005 073412" ∷ "0006 093412040101020400" ∷ "0021 0A0807060504030201010204010300" ∷ "0007 00" ∷ [])))
          ∷ [];
      expected =
          answer (typed_lines ("8005 07003412020102" ∷ "8006 090034120101" ∷ "8021 0A00" ∷ "R2" ∷ "bindings 1" ∷ []))
          ∷ [];
    }

-- what is no request: nothing, no payload, an odd digit, two spaces, no space, another character in each place, a carriage return; and
-- what is one: a leave, an unknown cluster, too short a payload, a bind with a small letter, and every letter in either case
unfoldable pub Typed : Case
Typed =
    record {
      says =
          answer
          (answers
          (typed_lines
          ("" ∷ "0005" ∷ "0005 " ∷ "0005 07341" ∷ "0005  073412" ∷ "0005  0734121" ∷ "0005073412" ∷ "00050073412" ∷ "0005x073412" ∷ "000G 073412" ∷ "0005 07341G" ∷ "0005 073412\r"
          ∷ "0034 01080706050403020100" ∷ "000a 00" ∷ "0005 07" ∷ "0021 0a0807060504030201010204010300" ∷ "0002 efABcd" ∷ "0002 EFabCD" ∷ [])))
          ∷ [];
      expected =
          answer
          (typed_lines
          ("?" ∷ "?" ∷ "?" ∷ "?" ∷ "?" ∷ "?" ∷ "?" ∷ "?" ∷ "?" ∷ "?" ∷ "?" ∷ "?" ∷ "leave" ∷ "R2" ∷ "R3" ∷ "8021 0A00" ∷ "8002 EF80ABCD" ∷ "8002 EF80ABCD" ∷ "bindings 1" ∷ []))
          ∷ [];
    }

-- a line of 4,095 characters is answered, one of 4,096 has no request's shape, and one of 4,097 is too long
unfoldable pub Long : Case
Long =
    record {
      says = map (λ zeros. answer (answers (typed "0005 073412" ++ replicate zeros 48))) (4084 ∷ 4085 ∷ 4086 ∷ []);
      expected =
          answer (typed_lines ("8005 07003412020102" ∷ "bindings 0" ∷ []))
          ∷ answer (typed_lines ("?" ∷ "bindings 0" ∷ []))
          ∷ answer (typed_lines ("?" ∷ "bindings 0" ∷ []))
          ∷ [];
    }

-- the end of the input: without a line; behind a line feed; behind a line without one
unfoldable pub Ending : Case
Ending =
    record {
      says = answer (answers []) ∷ answer (answers (10 ∷ [])) ∷ answer (answers (typed "0005 073412")) ∷ [];
      expected =
          answer (typed_lines ("bindings 0" ∷ []))
          ∷ answer (typed_lines ("?" ∷ "bindings 0" ∷ []))
          ∷ answer (typed_lines ("8005 07003412020102" ∷ "bindings 0" ∷ []))
          ∷ [];
    }

-- a line that binds to a group, by the two digits of the group's low byte
abbrev pub bind_to : String → List ℕ
bind_to digits = typed "0021 0A080706050403020101020401" ++ typed digits ++ typed "00" ++ 10 ∷ []

-- binds to 33 groups: the table holds 32
unfoldable pub Full : Case
Full =
    record {
      says =
          answer
          (answers
          (joined
          (map bind_to ("00" ∷ "01" ∷ "02" ∷ "03" ∷ "04" ∷ "05" ∷ "06" ∷ "07" ∷ "08" ∷ "09" ∷ "0A" ∷ "0B" ∷ "0C" ∷ "0D" ∷ "0E" ∷ "0F" ∷ "10" ∷ "11" ∷ "12" ∷ "13" ∷ "14" ∷ "15" ∷ "16" ∷ "17" ∷ "18" ∷ "19" ∷ "1A" ∷ "1B" ∷ "1C" ∷ "1D" ∷ "1E" ∷ "1F" ∷ "20" ∷ []))))
          ∷ [];
      expected = answer (typed_lines (replicate 32 "8021 0A00" ++ "8021 0A8C" ∷ "bindings 32" ∷ [])) ∷ [];
    }
