-- Two readers of one format: `parse_node_desc_rsp`, which looks for the server mask alone, and the reader of whole node replies. That
-- they agree, as statements. A term of each stands in proofs/.
use Rattle.std.specs.Prelude.{ℕ, ◌≡◌, List, Option, Some, None}
use Rattle.zigbee_types.specs.Outcome.{answer, mapped}
use Rattle.node_flags.specs.Flags.{stack_revision}
use Rattle.node_descriptor.specs.NodeDescriptor.{node_fields}
use Rattle.zdo_readers.specs.Readers.{NodeReply, node_reply_in, node_desc_rsp_in, stack_revision_of}
use Rattle.zdo_readers.specs.declared.descriptor.NodeDescRsp.{NodeDescRsp}
use Rattle.zdo_readers.specs.declared.readers.ReplyHeader.{ReplyHeader}
use Rattle.node_descriptor.specs.declared.NodeDescriptor.{NodeDescriptor}

-- the server mask of a descriptor, where there is one
abbrev pub mask_of : Option NodeDescriptor → Option ℕ
mask_of (Some d) = Some (node_fields d).server_mask
mask_of None = None

-- its stack revision, as `get_stack_compliance_revision` gives it
abbrev pub revision_of : Option NodeDescriptor → Option ℕ
revision_of (Some d) = Some (stack_revision (node_fields d).server_mask)
revision_of None = None

-- a reply in brief: what its header says, and a server mask
abbrev pub rsp_of : ReplyHeader → Option ℕ → NodeDescRsp
rsp_of h m = record { seq = h.seq; status = h.status; nwk_addr_of_interest = h.nwk_addr_of_interest; server_mask = m }

-- what a whole node reply says of sequence number, status, address and server mask
unfoldable pub in_brief : NodeReply → NodeDescRsp
in_brief r = rsp_of r.header (mask_of r.descriptor)

-- wherever the reader of whole replies reads, the other reads the same; so wherever both read, they agree
abbrev pub NodeReadersAgree : Type 0
NodeReadersAgree = (reply : List ℕ) (r : NodeReply) → node_reply_in reply ≡ answer r → node_desc_rsp_in reply ≡ answer (in_brief r)

-- and both stack revisions are one
abbrev pub RevisionsAgree : Type 0
RevisionsAgree =
    (reply : List ℕ) (r : NodeReply)
    → node_reply_in reply ≡ answer r
    → mapped (λ s. stack_revision_of s.server_mask) (node_desc_rsp_in reply) ≡ answer (revision_of r.descriptor)
