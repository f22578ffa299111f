-- A line that names a cluster and bytes: four hexadecimal digits, a space, and the bytes (document 01, "Counter-cases", the program
-- `answer`).
use Rattle.std.specs.Prelude.{ℕ, ◌+◌, ◌*◌, ◌/◌, ◌%◌, ◌≡◌, Bool, ◌&&◌, cond, List, [], ◌∷◌, ◌++◌, eqb, leb, length, get_or, take, drop, Option, Some, None}
use Rattle.zigbee_types.specs.Lists.{all}
use Rattle.zigbee_types.specs.Outcome.{Outcome, answer, refusal, mapped, written}
use Rattle.hex_lines.specs.Hex.{digit_value, is_digit, bytes_in, digits_of}
use Rattle.hex_lines.specs.declared.ParsedRequest.{ParsedRequest}

-- the character between the cluster and the bytes
abbrev pub SPACE : ℕ
SPACE = 32

-- a request, as a line has it
pub record Request : Type 0 where
  pub cluster : ℕ
  pub payload : List ℕ

-- ---- reading

-- is a line a request's: four digits, one space, and two digits for each byte, of which there is one or more? (So it has an odd
-- number of characters, and at least seven.)
unfoldable pub is_request : List ℕ → Bool
is_request line =
    leb 7 (length line) && eqb (length line % 2) 1 && all is_digit (take 4 line) && eqb (get_or line 4 0) SPACE && all is_digit (drop 5 line)

-- the number of its first four digits, the first the highest
unfoldable pub cluster_in : List ℕ → ℕ
cluster_in line =
    4096 * digit_value (get_or line 0 0) + 256 * digit_value (get_or line 1 0) + 16 * digit_value (get_or line 2 0) + digit_value (get_or line 3 0)

-- the request of a line, or none
unfoldable pub request_in : List ℕ → Option Request
request_in line = cond (is_request line) (Some (record { cluster = cluster_in line; payload = bytes_in (drop 5 line) })) None

-- ---- with a buffer for the payload

-- refusal 5: the payload is longer than the room for it
unfoldable pub with_room : ℕ → Option Request → Outcome (Option Request)
with_room room None = answer None
with_room room (Some q) = cond (leb (length q.payload) room) (answer (Some q)) (refusal 5)

-- what is told of a request, where there is one: its cluster, and how long its payload is
unfoldable pub heard_of : Option Request → Option ParsedRequest
heard_of None = None
heard_of (Some q) = Some (record { cluster = q.cluster; length = length q.payload })

-- what the buffer then holds: the payload and what stood behind it; without a request, what it held before
unfoldable pub payload_left : List ℕ → Outcome (Option Request) → List ℕ
payload_left before (answer None) = before
payload_left before (answer (Some q)) = written before (answer q.payload)
payload_left before (refusal n) = before

-- a line that comes to o: what is told, and the buffer after it
pub record LineRead (o : Option Request) (before : List ℕ) (told : Outcome (Option ParsedRequest)) (after : List ℕ) : Type 0 where
  pub said : told ≡ mapped heard_of (with_room (length before) o)
  pub left : after ≡ payload_left before (with_room (length before) o)

-- ---- writing

-- a cluster and bytes, a request's or a reply's, as a line in capitals
unfoldable pub hex_line : ℕ → List ℕ → List ℕ
hex_line cluster bytes = digits_of (cluster / 256 ∷ cluster % 256 ∷ []) ++ SPACE ∷ digits_of bytes
