-- Readers and writers have one table of widths, and each reply has document 01's length. Assumes nothing.
use Prim.Native.Nat.{ℕ, ◌+◌, ◌*◌, ◌≤◌}
use native.Mathlib.Omega.{arith}
use mathlib.Core.Path.{◌≡◌, refl, ap}
use mathlib.Core.List.{[], ◌∷◌, ◌++◌}
use lib.ListN.{length, length-append}
use borrow.Author.Tests.{le-leb}
use Rattle.zigbee_types.specs.Outcome.{answer, and_then, mapped}
use Rattle.zigbee_types.specs.Bytes.{le, number, number_at}
use Rattle.zigbee_types.specs.Layout.{byte, laid, size}
use Rattle.zigbee_types.specs.Statuses.{SUCCESS}
use Rattle.zigbee_types.specs.declared.ShortAddress.{ShortAddress}
use Rattle.zigbee_types.proofs.Layouts.{laid_counted, size_entries}
use Rattle.node_descriptor.specs.NodeDescriptor.{node_descriptor_of, node_widths}
use Rattle.node_power_descriptor.specs.PowerDescriptor.{power_descriptor_of, power_widths}
use Rattle.simple_descriptor.specs.SimpleDescriptor.{Endpoint, cluster_count, simple_header, simple_widths, simple_descriptor_of, simple_written}
use Rattle.simple_descriptor.proofs.Written.{simple_length}
use Rattle.zdo_requests.specs.Requests.{addr_of_interest_widths, addr_of_interest_fields, node_desc_req}
use Rattle.zdo_replies.specs.Replies.{header, addr_header, match_error_fields, status_fields, node_desc_rsp, power_desc_rsp, descriptor_rsp_error, endpoint_list, list_rsp, empty_rsp, match_desc_rsp_error, described_rsp, addr_rsp, addr_rsp_single, addr_rsp_extended, status_rsp}
use Rattle.zdo_readers.specs.Readers.{header_widths, addr_widths, status_widths}
use Rattle.zdo_list_readers.specs.ListReaders.{match_error_widths}
use Rattle.demands.specs.Frames.{OneLayout, ReplyLengths}

pub one_layout : OneLayout
unfolding node_descriptor_of node_widths power_descriptor_of power_widths header header_widths addr_header addr_widths simple_header simple_widths match_error_fields match_error_widths status_fields status_widths addr_of_interest_fields addr_of_interest_widths
one_layout =
    record {
      node = λ n. refl;
      power = λ p. refl;
      header = λ seq status a. refl;
      address = λ seq status l a. refl;
      simple = λ e. refl;
      match_error = λ seq status. refl;
      status = λ seq status. refl;
      node_request = λ seq a. refl;
    }

module _ (seq : ℕ) (a : ShortAddress) (e : Endpoint) (few : cluster_count e ≤ 28) where
  -- the reply is its header, the length, and the descriptor
  described : described_rsp seq a e ≡ answer (laid (header seq SUCCESS a ++ byte (length (laid (simple_descriptor_of e))) ∷ []) ++ laid (simple_descriptor_of e))
  unfolding described_rsp simple_written and_then
  described = rw (le-leb _ _ few)

  described_length : mapped length (described_rsp seq a e) ≡ answer (5 + (8 + 2 * cluster_count e))
  unfolding mapped header size
  described_length = rw (described, length-append, laid_counted, simple_length)

  described_byte : mapped (λ bytes. number_at 1 bytes 4) (described_rsp seq a e) ≡ answer (8 + 2 * cluster_count e)
  unfolding mapped header laid le number_at number
  described_byte = rw (described, simple_length) (ap answer (omega arith))

pub reply_lengths : ReplyLengths
unfolding mapped node_desc_rsp power_desc_rsp descriptor_rsp_error endpoint_list list_rsp empty_rsp match_desc_rsp_error addr_rsp addr_rsp_single addr_rsp_extended status_rsp node_desc_req header addr_header match_error_fields status_fields addr_of_interest_fields node_descriptor_of power_descriptor_of size
reply_lengths =
    record {
      node = λ seq a n. ap answer (laid_counted (header seq SUCCESS a ++ node_descriptor_of n));
      power = λ seq a p. ap answer (laid_counted (header seq SUCCESS a ++ power_descriptor_of p));
      list = λ seq a xs. rw laid_counted (ap answer (omega (arith, size_entries 1 xs)));
      simple = described_length;
      length_byte = described_byte;
      single = λ seq l a. rw laid_counted;
      extended = λ seq l a. rw laid_counted;
      address_error = λ seq status l a. rw laid_counted;
      descriptor_error = λ seq status a. rw laid_counted;
      list_error = λ seq status a. rw laid_counted;
      match_error = λ seq status. rw laid_counted;
      status = λ seq status. rw laid_counted;
      node_request = λ seq a. rw laid_counted;
    }
