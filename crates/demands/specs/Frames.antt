-- What holds of the frames, as statements: readers go by the widths that writers lay out, and each reply has the length that
-- document 01 gives. A term of each stands in proofs/.
use Rattle.std.specs.Prelude.{ℕ, ◌+◌, ◌*◌, ◌≤◌, ◌≡◌, true, false, List, length}
use Rattle.zigbee_types.specs.Outcome.{answer, mapped}
use Rattle.zigbee_types.specs.Bytes.{number_at}
use Rattle.zigbee_types.specs.FieldLaws.{widths}
use Rattle.zigbee_types.specs.declared.IeeeAddress.{IeeeAddress}
use Rattle.zigbee_types.specs.declared.ShortAddress.{ShortAddress}
use Rattle.node_descriptor.specs.NodeDescriptor.{node_descriptor_of, node_widths}
use Rattle.node_power_descriptor.specs.PowerDescriptor.{power_descriptor_of, power_widths}
use Rattle.simple_descriptor.specs.SimpleDescriptor.{Endpoint, cluster_count, simple_header, simple_widths}
use Rattle.node_descriptor.specs.declared.descriptor.NodeDescriptorConfig.{NodeDescriptorConfig}
use Rattle.node_power_descriptor.specs.declared.descriptor.PowerDescriptorConfig.{PowerDescriptorConfig}
use Rattle.zdo_requests.specs.Requests.{addr_of_interest_widths, addr_of_interest_fields, node_desc_req}
use Rattle.zdo_replies.specs.Replies.{header, addr_header, match_error_fields, status_fields, node_desc_rsp, power_desc_rsp, descriptor_rsp_error, list_rsp, empty_rsp, match_desc_rsp_error, described_rsp, addr_rsp, addr_rsp_single, status_rsp}
use Rattle.zdo_readers.specs.Readers.{header_widths, addr_widths, status_widths}
use Rattle.zdo_list_readers.specs.ListReaders.{match_error_widths}

-- where a frame, or the front of one, has a reader and a writer, both have one table of widths
pub record OneLayout : Type 0 where
  pub node : (n : NodeDescriptorConfig) → widths (node_descriptor_of n) ≡ node_widths
  pub power : (p : PowerDescriptorConfig) → widths (power_descriptor_of p) ≡ power_widths
  pub header : (seq status : ℕ) (a : ShortAddress) → widths (header seq status a) ≡ header_widths
  pub address : (seq status : ℕ) (l : IeeeAddress) (a : ShortAddress) → widths (addr_header seq status l a) ≡ addr_widths
  pub simple : (e : Endpoint) → widths (simple_header e) ≡ simple_widths
  pub match_error : (seq status : ℕ) → widths (match_error_fields seq status) ≡ match_error_widths
  pub status : (seq status : ℕ) → widths (status_fields seq status) ≡ status_widths
  pub node_request : (seq : ℕ) (a : ShortAddress) → widths (addr_of_interest_fields seq a) ≡ addr_of_interest_widths

-- document 01, "Replies" and "Payloads": the length of each reply and of the node request, and what the length byte of a simple
-- reply says
pub record ReplyLengths : Type 0 where
  pub node : (seq : ℕ) (a : ShortAddress) (n : NodeDescriptorConfig) → mapped length (node_desc_rsp seq a n) ≡ answer 17
  pub power : (seq : ℕ) (a : ShortAddress) (p : PowerDescriptorConfig) → mapped length (power_desc_rsp seq a p) ≡ answer 6
  pub list : (seq : ℕ) (a : ShortAddress) (xs : List ℕ) → mapped length (list_rsp seq a xs) ≡ answer (5 + length xs)
  pub simple : (seq : ℕ) (a : ShortAddress) (e : Endpoint) → cluster_count e ≤ 28 → mapped length (described_rsp seq a e) ≡ answer (5 + (8 + 2 * cluster_count e))
  pub length_byte : (seq : ℕ) (a : ShortAddress) (e : Endpoint) → cluster_count e ≤ 28 → mapped (λ bytes. number_at 1 bytes 4) (described_rsp seq a e) ≡ answer (8 + 2 * cluster_count e)
  pub single : (seq : ℕ) (l : IeeeAddress) (a : ShortAddress) → mapped length (addr_rsp seq l a false) ≡ answer 12
  pub extended : (seq : ℕ) (l : IeeeAddress) (a : ShortAddress) → mapped length (addr_rsp seq l a true) ≡ answer 14
  pub address_error : (seq status : ℕ) (l : IeeeAddress) (a : ShortAddress) → mapped length (addr_rsp_single seq status l a) ≡ answer 12
  pub descriptor_error : (seq status : ℕ) (a : ShortAddress) → mapped length (descriptor_rsp_error seq status a) ≡ answer 4
  pub list_error : (seq status : ℕ) (a : ShortAddress) → mapped length (empty_rsp seq status a) ≡ answer 5
  pub match_error : (seq status : ℕ) → mapped length (match_desc_rsp_error seq status) ≡ answer 3
  pub status : (seq status : ℕ) → mapped length (status_rsp seq status) ≡ answer 2
  pub node_request : (seq : ℕ) (a : ShortAddress) → mapped length (node_desc_req seq a) ≡ answer 3
