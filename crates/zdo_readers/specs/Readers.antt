-- The readers of node, power, address and status replies, and of what most replies begin with (document 01, "Reply readers"). A
-- reply that is shorter than its layout needs is refusal 3. Bytes behind it are ignored, but where document 01 reads more if there is
-- more: the server mask of `parse_node_desc_rsp` from 14 bytes on, and what an extended address reply adds, whose list goes up to the
-- reply's end.
use Rattle.std.specs.Prelude.{ℕ, ◌-◌, ◌/◌, Bool, true, false, ◌&&◌, cond, List, [], ◌∷◌, eqb, leb, length, drop, Option, Some, None}
use Rattle.zigbee_types.specs.Outcome.{Outcome, answer, and_then, mapped}
use Rattle.zigbee_types.specs.Bytes.{number_at}
use Rattle.zigbee_types.specs.Layout.{parsed}
use Rattle.zigbee_types.specs.Addresses.{ieee_of, short_of}
use Rattle.zigbee_types.specs.Statuses.{SUCCESS}
use Rattle.node_flags.specs.Flags.{stack_revision}
use Rattle.node_descriptor.specs.NodeDescriptor.{node_descriptor_in}
use Rattle.node_descriptor.specs.declared.NodeDescriptor.{NodeDescriptor}
use Rattle.node_power_descriptor.specs.PowerDescriptor.{power_descriptor_in}
use Rattle.node_power_descriptor.specs.declared.NodePowerDescriptor.{NodePowerDescriptor}
use Rattle.zdo_readers.specs.declared.descriptor.NodeDescRsp.{NodeDescRsp}
use Rattle.zdo_readers.specs.declared.readers.ReplyHeader.{ReplyHeader}
use Rattle.zdo_readers.specs.declared.readers.DescriptorReply.{DescriptorReply}
use Rattle.zdo_readers.specs.declared.readers.AddrReply.{AddrReply}
use Rattle.zdo_readers.specs.declared.readers.Associated.{Associated}
use Rattle.zdo_readers.specs.declared.readers.StatusReply.{StatusReply}

-- seq, status, the address of interest: 4 bytes
unfoldable pub header_widths : List ℕ
header_widths = 1 ∷ 1 ∷ 2 ∷ []

-- what most replies begin with
unfoldable pub header_in : List ℕ → Outcome ReplyHeader
header_in = parsed header_widths (λ field. record { seq = field 0; status = field 1; nwk_addr_of_interest = short_of (field 2) })

-- ---- node and power

-- a node reply, and a power reply
abbrev pub NodeReply : Type 0
NodeReply = DescriptorReply NodeDescriptor

abbrev pub PowerReply : Type 0
PowerReply = DescriptorReply NodePowerDescriptor

-- a reply with its descriptor
abbrev pub with_descriptor : {D : Type 0} → ReplyHeader → D → DescriptorReply D
with_descriptor h d = record { header = h; descriptor = Some d }

-- and without one
abbrev pub without_descriptor : {D : Type 0} → ReplyHeader → DescriptorReply D
without_descriptor h = record { header = h; descriptor = None }

-- node and power replies: with SUCCESS a descriptor stands from byte 4 on, and may be refused; with another status there is none
unfoldable pub descriptor_reply_in : {D : Type 0} → (List ℕ → Outcome D) → List ℕ → Outcome (DescriptorReply D)
descriptor_reply_in read_in reply =
    and_then
    (header_in reply)
    (λ h. cond (eqb h.status SUCCESS) (mapped (with_descriptor h) (read_in (drop 4 reply))) (answer (without_descriptor h)))

-- 2.4.4.2.3. (One of SUCCESS that has its header and no whole descriptor is refused like one without a header; `header_in` tells which.)
unfoldable pub node_reply_in : List ℕ → Outcome NodeReply
node_reply_in = descriptor_reply_in node_descriptor_in

-- 2.4.4.2.4
unfoldable pub power_reply_in : List ℕ → Outcome PowerReply
power_reply_in = descriptor_reply_in power_descriptor_in

-- does a reply of this status go on, with SUCCESS and 14 bytes?
abbrev pub goes_further : ℕ → List ℕ → Bool
goes_further status reply = eqb status SUCCESS && leb 14 (length reply)

-- ---- the server mask alone

-- is there one: it stands at byte 12
unfoldable pub server_mask_in : Bool → List ℕ → Option ℕ
server_mask_in true reply = Some (number_at 2 reply 12)
server_mask_in false reply = None

-- `parse_node_desc_rsp`: needs 4 bytes, and gives the server mask only with SUCCESS and 14 bytes
unfoldable pub node_desc_rsp_in : List ℕ → Outcome NodeDescRsp
node_desc_rsp_in reply =
    parsed header_widths
    (λ field.
    record {
      seq = field 0;
      status = field 1;
      nwk_addr_of_interest = short_of (field 2);
      server_mask = server_mask_in (goes_further (field 1) reply) reply;
    })
    reply

-- `stack_revision`: that of the server mask, where there is one
unfoldable pub stack_revision_of : Option ℕ → Option ℕ
stack_revision_of (Some m) = Some (stack_revision m)
stack_revision_of None = None

-- ---- addresses

-- is it extended: then it goes on with the number of devices and the index. Addresses stand from byte 14 on, two bytes each, up to the
-- reply's end, whatever number it tells; a single last byte is ignored.
unfoldable pub associated_in : Bool → List ℕ → Option Associated
associated_in true reply =
    Some
    (record { num_assoc_dev = number_at 1 reply 12; start_index = number_at 1 reply 13; devices = record { start = 14; count = (length reply - 14) / 2 } })
associated_in false reply = None

-- seq, status, IEEE address, short address: 12 bytes
unfoldable pub addr_widths : List ℕ
addr_widths = 1 ∷ 1 ∷ 8 ∷ 2 ∷ []

-- 2.4.4.2.1 and 2.4.4.2.2: extended with 14 bytes or more and SUCCESS
unfoldable pub addr_reply_in : List ℕ → Outcome AddrReply
addr_reply_in reply =
    parsed addr_widths
    (λ field.
    record {
      seq = field 0;
      status = field 1;
      ieee_addr = ieee_of (field 2);
      nwk_addr = short_of (field 3);
      associated = associated_in (goes_further (field 1) reply) reply;
    })
    reply

-- ---- bind, unbind and leave

-- seq, status
unfoldable pub status_widths : List ℕ
status_widths = 1 ∷ 1 ∷ []

-- 2.4.4.3.2, 2.4.4.3.3 and 2.4.4.4.5
unfoldable pub status_reply_in : List ℕ → Outcome StatusReply
status_reply_in = parsed status_widths (λ field. record { seq = field 0; status = field 1 })
