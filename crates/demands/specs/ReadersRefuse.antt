-- Which replies the readers refuse, in numbers of bytes (document 01, "Reply readers"), as statements. A term of it stands in proofs/.
use Rattle.std.specs.Prelude.{ℕ, ◌+◌, ◌*◌, ◌%◌, ◌≡◌, Bool, ◌||◌, ◌&&◌, not, cond, List, eqb, ltb, length, get_or, Option, Some, None}
use Rattle.zigbee_types.specs.Outcome.{Outcome, answer, refusal}
use Rattle.zigbee_types.specs.Bytes.{bit_at}
use Rattle.zigbee_types.specs.Statuses.{SUCCESS}
use Rattle.zdo_readers.specs.Readers.{header_in, node_reply_in, power_reply_in, node_desc_rsp_in, addr_reply_in, status_reply_in}
use Rattle.zdo_list_readers.specs.ListReaders.{list_reply_in, match_reply_in, simple_reply_in}

-- the number of a refusal; an answer has none
unfoldable pub refusal_of : {A : Type 0} → Outcome A → Option ℕ
refusal_of (answer a) = None
refusal_of (refusal n) = Some n

-- refusal 3 exactly if a test holds
abbrev pub malformed_if : Bool → Option ℕ
malformed_if b = cond b (Some 3) None

-- byte i of a reply or a payload, counted from 0; 0 where there is none
abbrev pub byte_of : List ℕ → ℕ → ℕ
byte_of reply i = get_or reply i 0

-- has it fewer bytes than n?
abbrev pub shorter : List ℕ → ℕ → Bool
shorter reply n = ltb (length reply) n

-- is its status, byte 1, SUCCESS? So is that of a reply of less than two bytes, which is too short in any case.
abbrev pub succeeds : List ℕ → Bool
succeeds reply = eqb (byte_of reply 1) SUCCESS

-- module 3: is the current source, the low half of byte 5, one of 1, 2 and 4, and is its bit set in the high half of byte 4?
abbrev pub source_stands : List ℕ → Bool
source_stands reply =
    let available = byte_of reply 4 in
    let current = byte_of reply 5 % 16 in
    (eqb current 1 && bit_at 4 available) || ((eqb current 2 && bit_at 5 available) || (eqb current 4 && bit_at 6 available))

-- does a simple descriptor from byte 5 on need more than the bytes that its length, byte 4, gives it: 8, and two for each cluster of
-- its two lists? They are counted at byte 6 of the descriptor and behind the first list. (Where a count stands past that length, the
-- descriptor needs more already by what comes before.) Length 0 means none.
abbrev pub runs_over : List ℕ → Bool
runs_over reply =
    let len = byte_of reply 4 in
    let inputs = byte_of reply 11 in
    let outputs = byte_of reply (12 + 2 * inputs) in
    not (eqb len 0) && ltb len (8 + 2 * inputs + 2 * outputs)

-- each reader gives refusal 3 for these replies, and answers all others. (`mask` is `parse_node_desc_rsp`.)
pub record ReadersRefuse : Type 0 where
  pub header : (reply : List ℕ) → refusal_of (header_in reply) ≡ malformed_if (shorter reply 4)
  pub mask : (reply : List ℕ) → refusal_of (node_desc_rsp_in reply) ≡ malformed_if (shorter reply 4)
  pub node : (reply : List ℕ) → refusal_of (node_reply_in reply) ≡ malformed_if (shorter reply (cond (succeeds reply) 17 4))
  pub power :
      (reply : List ℕ)
      → refusal_of (power_reply_in reply)
      ≡ malformed_if (shorter reply (cond (succeeds reply) 6 4) || (succeeds reply && not (source_stands reply)))
  pub list : (reply : List ℕ) → refusal_of (list_reply_in reply) ≡ malformed_if (shorter reply (5 + byte_of reply 4))
  pub match : (reply : List ℕ) → refusal_of (match_reply_in reply) ≡ malformed_if (shorter reply (cond (succeeds reply) (5 + byte_of reply 4) 3))
  pub simple : (reply : List ℕ) → refusal_of (simple_reply_in reply) ≡ malformed_if (shorter reply (5 + byte_of reply 4) || runs_over reply)
  pub address : (reply : List ℕ) → refusal_of (addr_reply_in reply) ≡ malformed_if (shorter reply 12)
  pub status : (reply : List ℕ) → refusal_of (status_reply_in reply) ≡ malformed_if (shorter reply 2)
