-- The readers of active, match and simple replies, which carry a list or a descriptor behind its length (document 01, "Reply
-- readers"). A reply that is shorter than its layout needs is refusal 3. Bytes behind it are ignored.
use Rattle.std.specs.Prelude.{ℕ, ◌+◌, Bool, true, false, cond, List, [], ◌∷◌, eqb, Some, None}
use Rattle.zigbee_types.specs.Lists.{part}
use Rattle.zigbee_types.specs.Outcome.{Outcome, answer, and_then, mapped, needing}
use Rattle.zigbee_types.specs.Bytes.{number_at}
use Rattle.zigbee_types.specs.Layout.{parsed, counted, behind}
use Rattle.zigbee_types.specs.Statuses.{SUCCESS}
use Rattle.zigbee_types.specs.declared.Places.{Places}
use Rattle.simple_descriptor.specs.SimpleDescriptor.{simple_descriptor_in}
use Rattle.simple_descriptor.specs.declared.SimpleDescriptorFields.{SimpleDescriptorFields}
use Rattle.zdo_readers.specs.Readers.{header_in}
use Rattle.zdo_readers.specs.declared.readers.ReplyHeader.{ReplyHeader}
use Rattle.zdo_list_readers.specs.declared.readers.ListReply.{ListReply}
use Rattle.zdo_list_readers.specs.declared.readers.MatchReply.{MatchReply}
use Rattle.zdo_list_readers.specs.declared.readers.MatchReply.TheVariants.{Matched, Failed}
use Rattle.zdo_list_readers.specs.declared.readers.SimpleReply.{SimpleReply}

-- ---- active and match

-- behind a header the list is counted at byte 4, one byte for each entry, and must be whole
unfoldable pub list_behind : ReplyHeader → List ℕ → Outcome ListReply
list_behind h reply =
    let list = counted reply 4 in
    needing (behind 1 list) reply (record { header = h; list = list })

-- 2.4.4.2.6
unfoldable pub list_reply_in : List ℕ → Outcome ListReply
list_reply_in reply = and_then (header_in reply) (λ h. list_behind h reply)

-- seq, status, and a byte that is ignored
unfoldable pub match_error_widths : List ℕ
match_error_widths = 1 ∷ 1 ∷ 1 ∷ []

-- is the status SUCCESS: then it is read as an active reply; else in the 3-byte form
unfoldable pub match_reply_in_as : Bool → List ℕ → Outcome MatchReply
match_reply_in_as true reply = mapped Matched (list_reply_in reply)
match_reply_in_as false reply = parsed match_error_widths (λ field. Failed (record { seq = field 0; status = field 1 })) reply

-- 2.4.4.2.7: the status is byte 1; a reply that ends before it reads as SUCCESS, and is then too short
unfoldable pub match_reply_in : List ℕ → Outcome MatchReply
match_reply_in reply = match_reply_in_as (eqb (number_at 1 reply 1) SUCCESS) reply

-- ---- simple

-- a list whose place was counted from place `at` of the reply on, counted from the start of the reply
unfoldable pub shifted : ℕ → Places → Places
shifted at p = record { start = at + p.start; count = p.count }

-- a descriptor with both its lists so
unfoldable pub shifted_fields : ℕ → SimpleDescriptorFields → SimpleDescriptorFields
shifted_fields at d =
    record {
      endpoint = d.endpoint;
      profile_id = d.profile_id;
      device_id = d.device_id;
      device_version = d.device_version;
      input_clusters = shifted at d.input_clusters;
      output_clusters = shifted at d.output_clusters;
    }

-- a descriptor of length 0 is none; another is read within its length, from where it stands
unfoldable pub simple_within : ListReply → List ℕ → Outcome SimpleReply
simple_within l reply =
    let place = l.list in
    cond (eqb place.count 0)
    (answer (record { header = l.header; descriptor = None }))
    (mapped
    (λ d. record { header = l.header; descriptor = Some (shifted_fields place.start d) })
    (simple_descriptor_in (part place.start place.count reply)))

-- 2.4.4.2.5, of any status: the length stands where an active reply has its count, the descriptor where that has its list, and it must
-- be whole
unfoldable pub simple_reply_in : List ℕ → Outcome SimpleReply
simple_reply_in reply = and_then (list_reply_in reply) (λ l. simple_within l reply)
