-- The two readers of node replies agree: the server mask that one looks for alone is the one that the other's descriptor holds.
-- Assumes nothing.
use Rattle.std.specs.Prelude.{Option, Some, None}
use Prim.Native.Nat.{ℕ, ◌≤◌}
use native.Mathlib.Omega.{arith}
use mathlib.Core.Path.{◌≡◌, refl}
use mathlib.Core.Bool.{Bool, true, false, ◌&&◌, cond}
use mathlib.Core.List.{List}
use lib.Dec.{eqb, leb}
use lib.ListN.{length, drop, length-drop}
use borrow.Author.Tests.{leb-true, le-leb}
use Rattle.zigbee_types.specs.Outcome.{answer, mapped, needing}
use Rattle.zigbee_types.specs.Bytes.{number_at}
use Rattle.zigbee_types.specs.Layout.{size, fields_at, field_of, parsed}
use Rattle.zigbee_types.specs.Addresses.{short_of}
use Rattle.zigbee_types.specs.Statuses.{SUCCESS}
use Rattle.zigbee_types.proofs.Fields.{number_at_drop}
use Rattle.zigbee_types.proofs.Outcomes.{granted, mapped_granted, held, answered}
use Rattle.node_descriptor.specs.NodeDescriptor.{node_widths, node_descriptor_in}
use Rattle.zdo_readers.specs.Readers.{header_widths, header_in, NodeReply, with_descriptor, without_descriptor, descriptor_reply_in, node_reply_in, server_mask_in, node_desc_rsp_in, stack_revision_of}
use Rattle.zdo_readers.specs.declared.readers.ReplyHeader.{ReplyHeader}
use Rattle.demands.specs.TwoReaders.{mask_of, revision_of, rsp_of, in_brief, NodeReadersAgree, RevisionsAgree}
use Rattle.node_descriptor.specs.declared.NodeDescriptor.{NodeDescriptor}

module _ (reply : List ℕ) where
  -- field 6 of a descriptor behind the header is what stands at byte 12
  mask_there : field_of node_widths (drop 4 reply) 6 ≡ number_at 2 reply 12
  unfolding node_widths fields_at
  mask_there = number_at_drop 2 4 reply 8

  -- and both its bytes are there where the descriptor is whole
  mask_long : leb (size node_widths) (length (drop 4 reply)) ≡ true → 14 ≤ length reply
  unfolding node_widths size
  mask_long held = omega (arith, leb-true 13 (length (drop 4 reply)) held, length-drop 4 reply)

  module _ (h : ReplyHeader) (r : NodeReply) where
    -- what was read behind a header, with SUCCESS or without, is what stands there
    brief :
        (b : Bool)
        → cond b (mapped (with_descriptor h) (node_descriptor_in (drop 4 reply))) (answer (without_descriptor h)) ≡ answer r
        → in_brief r ≡ rsp_of h (server_mask_in (b && leb 14 (length reply)) reply)
    unfolding in_brief server_mask_in node_descriptor_in parsed needing
    brief true e =
        let (held, same) = granted (leb (size node_widths) (length (drop 4 reply))) _ 3 (rw mapped_granted at e) in
        rw (le-leb _ _ (mask_long held), ← mask_there) (cc same)
    brief false e = cc e

pub node_readers_agree : NodeReadersAgree
unfolding node_reply_in node_desc_rsp_in descriptor_reply_in header_in parsed needing
node_readers_agree reply r e =
    let field : ℕ → ℕ = field_of header_widths reply in
    let h : ReplyHeader = record { seq = field 0; status = field 1; nwk_addr_of_interest = short_of (field 2) } in
    let (x, front, came) = answered (header_in reply) _ e in
    let (long, same) = held (size header_widths) reply h front in
    let is : x ≡ h = cc same in
    rw (le-leb _ _ long, brief reply h r (eqb h.status SUCCESS) (rw is at came))

-- the revision of a descriptor is that of its mask
revision_brief : (d : Option NodeDescriptor) → stack_revision_of (mask_of d) ≡ revision_of d
unfolding stack_revision_of
revision_brief (Some d) = refl
revision_brief None = refl

pub revisions_agree : RevisionsAgree
unfolding mapped in_brief
revisions_agree reply r e = rw (node_readers_agree reply r e, revision_brief)
