-- What holds of every reply that is read, whoever wrote it: bytes behind it are ignored, and its lists stand where the reader says,
-- counted from the start of the reply (document 01, "Payloads" and "Reply readers"). As statements; a term of each stands in proofs/.
use Rattle.std.specs.Prelude.{ℕ, ◌≤◌, ◌≡◌, List, ◌++◌, length}
use Rattle.zigbee_types.specs.Lists.{part}
use Rattle.zigbee_types.specs.Outcome.{Outcome, answer}
use Rattle.zigbee_types.specs.Layout.{behind}
use Rattle.simple_descriptor.specs.SimpleDescriptor.{simple_descriptor_in, simple_fields}
use Rattle.simple_descriptor.specs.declared.SimpleDescriptorFields.{SimpleDescriptorFields}
use Rattle.zdo_readers.specs.Readers.{header_in, node_reply_in, power_reply_in, status_reply_in}
use Rattle.zdo_list_readers.specs.ListReaders.{list_reply_in, match_reply_in, shifted_fields, simple_reply_in}
use Rattle.zdo_list_readers.specs.declared.readers.ListReply.{ListReply}

-- a reader ignores what stands behind a reply that it reads
abbrev pub IgnoresTrailing : {R : Type 0} → (List ℕ → Outcome R) → Type 0
IgnoresTrailing {R} read = (reply rest : List ℕ) (r : R) → read reply ≡ answer r → read (reply ++ rest) ≡ answer r

-- so do all but the two that read more where there is more: `parse_node_desc_rsp`, and that of address replies
pub record TrailingIgnored : Type 0 where
  pub header : IgnoresTrailing header_in
  pub node : IgnoresTrailing node_reply_in
  pub power : IgnoresTrailing power_reply_in
  pub list : IgnoresTrailing list_reply_in
  pub match : IgnoresTrailing match_reply_in
  pub simple : IgnoresTrailing simple_reply_in
  pub status : IgnoresTrailing status_reply_in

-- a list that is read lies within the reply; and what a simple descriptor within its length says, it says at its places in the whole
-- reply
pub record PlacesStand : Type 0 where
  pub list : (reply : List ℕ) (r : ListReply) → list_reply_in reply ≡ answer r → behind 1 r.list ≤ length reply
  pub simple :
      (reply : List ℕ) (start len : ℕ) (d : SimpleDescriptorFields)
      → simple_descriptor_in (part start len reply) ≡ answer d
      → simple_fields reply (shifted_fields start d) ≡ simple_fields (part start len reply) d
