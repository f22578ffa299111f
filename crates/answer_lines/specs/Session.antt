-- What the program `answer` writes for its lines (document 01, "Counter-cases").
use Rattle.std.specs.Prelude.{ℕ, ◌+◌, ◌≤◌, ◌<◌, ◌≡◌, List, [], ◌∷◌, ◌++◌, length, take, set, Result, Ok, Err}
use Rattle.zigbee_types.specs.Lists.{option}
use Rattle.zigbee_types.specs.Outcome.{Outcome, answer, refusal, mapped, Wrote}
use Rattle.zigbee_types.specs.Refusals.{refusal_number}
use Rattle.zigbee_types.specs.declared.Refusal.{Refusal}
use Rattle.aps_binding_table.specs.Table.{empty_table}
use Rattle.aps_binding_table.specs.declared.binding.BindingTable.{BindingTable}
use Rattle.zdo_discovery.specs.Host.{Host}
use Rattle.zdo_dispatcher.specs.declared.dispatcher.Response.{Response}
use Rattle.zdo_dispatcher.specs.declared.dispatcher.Response.TheVariants as response
use Rattle.zdo_dispatcher.specs.Answers.{Answer, reply, leave, answered, table_after}
use Rattle.lines.specs.Lines.{LINE_FEED, Line, whole, overlong, lines_within}
use Rattle.hex_lines.specs.RequestLine.{Request, request_in, hex_line}
use Rattle.decimal.specs.Decimal.{decimal}
use Rattle.our_device.specs.OurDevice.{ours}

-- the reply's buffer has so many bytes
abbrev pub ROOM_NUMBER : ℕ
ROOM_NUMBER = 128

-- a line has at most so many characters
abbrev pub LINE_NUMBER : ℕ
LINE_NUMBER = 4096

-- the binding table holds at most so many entries
abbrev pub LIMIT_NUMBER : ℕ
LIMIT_NUMBER = 32

-- ---- one line

-- `?`
abbrev pub QUESTION : List ℕ
QUESTION = 63 ∷ []

-- `leave`
abbrev pub LEAVE : List ℕ
LEAVE = 108 ∷ 101 ∷ 97 ∷ 118 ∷ 101 ∷ []

-- `R`, and the number of a refusal
abbrev pub refusal_text : ℕ → List ℕ
refusal_text n = 82 ∷ decimal n

-- the text of what a request comes to: a reply's cluster and bytes, `leave`, or a refusal's `R` and number
unfoldable pub text_of : Outcome Answer → List ℕ
text_of (answer (reply cluster bytes t)) = hex_line cluster bytes
text_of (answer (leave q)) = LEAVE
text_of (refusal n) = refusal_text n

-- what is written, and the binding table then
pub record Said : Type 0 where
  pub text : List ℕ
  pub table : BindingTable

-- of a request: what it comes to
unfoldable pub heard : Host → BindingTable → Request → Said
heard h t q =
    let o = answered h t (record { cluster = q.cluster; payload = q.payload; room = ROOM_NUMBER }) in
    record { text = text_of o; table = table_after t o }

-- of a line that is no request: `?`
unfoldable pub unheard : BindingTable → Said
unheard t = record { text = QUESTION; table = t }

-- of a line: one that is too long is no request
unfoldable pub said : Host → BindingTable → Line → Said
said h t (whole line) = option (unheard t) (heard h t) (request_in line)
said h t overlong = unheard t

-- ---- all lines

-- of lines one after the other: the text of each, and a line feed
unfoldable pub spoken : Host → BindingTable → List Line → Said
spoken h t [] = record { text = []; table = t }
spoken h t (line ∷ lines) =
    let s = said h t line in
    let rest = spoken h s.table lines in
    record { text = s.text ++ LINE_FEED ∷ rest.text; table = rest.table }

-- `bindings` and a space
abbrev pub BINDINGS : List ℕ
BINDINGS = 98 ∷ 105 ∷ 110 ∷ 100 ∷ 105 ∷ 110 ∷ 103 ∷ 115 ∷ 32 ∷ []

-- these, and how many entries a table holds, in decimal
unfoldable pub count_text : ℕ → List ℕ
count_text count = BINDINGS ++ decimal count

-- the last line of the output, with its line feed
unfoldable pub closing : ℕ → List ℕ
closing count = count_text count ++ (LINE_FEED ∷ [])

-- what is written for lines, from a table on, and then at the end of the input
unfoldable pub session : Host → BindingTable → List Line → List ℕ
session h t lines =
    let s = spoken h t lines in
    s.text ++ closing s.table.count

-- what the program writes for its input: it begins with an empty table
unfoldable pub answers : List ℕ → List ℕ
answers input = session ours (empty_table LIMIT_NUMBER) (lines_within LINE_NUMBER input)

-- ---- with a buffer for the text

-- the text of what `dispatch` answers, where a reply's bytes stand at the front of its buffer
unfoldable pub response_text : Result Response Refusal → List ℕ → List ℕ
response_text (Ok (response.Reply cluster n)) buffer = hex_line cluster (take n buffer)
response_text (Ok (response.Leave q)) buffer = LEAVE
response_text (Err why) buffer = refusal_text (refusal_number why)

-- a text was told, and the buffer goes on behind it
pub record Inside (told : Outcome ℕ) (buffer : List ℕ) : Type 0 where
  pub long : ℕ
  pub said : told ≡ answer long
  pub within : long < length buffer

-- the buffer with a line feed behind a text of that length; without a text, as it was
unfoldable pub line_end : List ℕ → Outcome ℕ → List ℕ
line_end before (answer n) = set before n LINE_FEED
line_end before (refusal k) = before

-- a line feed is put behind a text that was told, and told with it
pub record Ends (told : Outcome ℕ) (before : List ℕ) (more : Outcome ℕ) (after : List ℕ) : Type 0 where
  pub said : more ≡ mapped (λ n. n + 1) told
  pub left : after ≡ line_end before told

-- room for any text: cluster, space, two digits for each byte of a full reply buffer, line feed
abbrev pub TEXT_NUMBER : ℕ
TEXT_NUMBER = 262

-- lines are answered: the text is written, which has at most so many characters, and the table is the one after it
pub record Tells (s : Said) (most : ℕ) (before : List ℕ) (told : Outcome ℕ) (u : BindingTable) (after : List ℕ) : Type 0 where
  pub wrote : Wrote (answer s.text) before told after
  pub table : u ≡ s.table
  pub short : length s.text ≤ most
