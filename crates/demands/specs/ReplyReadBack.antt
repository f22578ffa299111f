-- Demand 2, its last sentence: a reply that was written is read, under document 01's premises, as the fields that its writer was
-- given, cut to their widths. As statements, one for each writer and its reader; a term of each stands in proofs/.
use Rattle.std.specs.Prelude.{ℕ, ◌%◌, ◌^◌, ◌≤◌, ◌≡◌, Bool, true, false, cond, List, [], ◌++◌, map, length, take, drop, Option, Some, None}
use Rattle.zigbee_types.specs.Outcome.{Outcome, answer, refusal, mapped, Wrote}
use Rattle.zigbee_types.specs.Layout.{entries_at}
use Rattle.zigbee_types.specs.Lists.{option}
use Rattle.zigbee_types.specs.Addresses.{ieee_of, short_of}
use Rattle.zigbee_types.specs.Statuses.{SUCCESS, NOT_ACTIVE}
use Rattle.zigbee_types.specs.declared.IeeeAddress.{IeeeAddress}
use Rattle.zigbee_types.specs.declared.ShortAddress.{ShortAddress}
use Rattle.node_descriptor.specs.NodeDescriptor.{node_fields}
use Rattle.node_descriptor.specs.declared.descriptor.NodeDescriptorConfig.{NodeDescriptorConfig}
use Rattle.power_names.specs.Names.{source_bits}
use Rattle.node_power_descriptor.specs.PowerDescriptor.{power_fields, usable}
use Rattle.node_power_descriptor.specs.declared.descriptor.PowerDescriptorConfig.{PowerDescriptorConfig}
use Rattle.simple_descriptor.specs.SimpleDescriptor.{Endpoint, simple_fields}
use Rattle.zdo_replies.specs.Replies.{node_desc_rsp, power_desc_rsp, descriptor_rsp_error, list_rsp, empty_rsp, match_desc_rsp_error, addr_rsp_single, addr_rsp_extended, addr_rsp, status_rsp}
use Rattle.zdo_device.specs.Tables.{Pools, used, endpoint_record, endpoint_of}
use Rattle.zdo_device.specs.declared.descriptor.DeviceDescriptorConfig.{DeviceDescriptorConfig}
use Rattle.zdo_device_rsp.specs.TableReplies.{numbers, active_ep_rsp, simple_desc_rsp}
use Rattle.zdo_readers.specs.Readers.{NodeReply, PowerReply, node_reply_in, node_desc_rsp_in, power_reply_in, addr_reply_in, status_reply_in}
use Rattle.zdo_readers.specs.declared.readers.ReplyHeader.{ReplyHeader}
use Rattle.zdo_readers.specs.declared.readers.AddrReply.{AddrReply}
use Rattle.zdo_readers.specs.declared.readers.StatusReply.{StatusReply}
use Rattle.zdo_list_readers.specs.ListReaders.{list_reply_in, match_reply_in, simple_reply_in}
use Rattle.zdo_list_readers.specs.declared.readers.ListReply.{ListReply}
use Rattle.zdo_list_readers.specs.declared.readers.MatchReply.{MatchReply}
use Rattle.zdo_list_readers.specs.declared.readers.MatchReply.TheVariants as match
use Rattle.zdo_list_readers.specs.declared.readers.SimpleReply.{SimpleReply}
use Rattle.demands.specs.ReadBack.{cut_node, cut_power, cut_endpoint}
use Rattle.demands.specs.TwoReaders.{rsp_of}
use Rattle.node_descriptor.specs.declared.NodeDescriptor.{NodeDescriptor}
use Rattle.node_power_descriptor.specs.declared.NodePowerDescriptor.{NodePowerDescriptor}
use Rattle.simple_descriptor.specs.declared.SimpleDescriptorFields.{SimpleDescriptorFields}
use Rattle.zdo_readers.specs.declared.readers.Associated.{Associated}

-- what was written by a writer that comes to o is read as r: as many bytes of the buffer as the writer told, with any bytes behind
-- them
abbrev pub ReadsAs : {R : Type 0} → Outcome (List ℕ) → (List ℕ → Outcome R) → Outcome R → Type 0
ReadsAs o read r =
    (before after rest : List ℕ) (told : ℕ) → Wrote o before (answer told) after → read (take told after ++ rest) ≡ r

-- the same, with at most one byte behind them
abbrev pub ReadsAloneAs : {R : Type 0} → Outcome (List ℕ) → (List ℕ → Outcome R) → Outcome R → Type 0
ReadsAloneAs o read r =
    (before after rest : List ℕ) (told : ℕ) → length rest ≤ 1 → Wrote o before (answer told) after → read (take told after ++ rest) ≡ r

-- the premise of an error form: its status, as it is written, is not SUCCESS
abbrev pub Failing : ℕ → Type 0
Failing status = status % 256 ≡ SUCCESS → ⊥

-- sequence number, status and address, cut
unfoldable pub cut_header : ℕ → ℕ → ShortAddress → ReplyHeader
cut_header seq status a = record { seq = seq % 256; status = status % 256; nwk_addr_of_interest = short_of (a.0 % 65536) }

-- ---- what a reply that was read says

-- the fields of a node descriptor, where there is one
abbrev pub some_node : Option NodeDescriptor → Option NodeDescriptorConfig
some_node (Some d) = Some (node_fields d)
some_node None = None

-- a node reply: its header, and the fields of its descriptor
abbrev pub node_said : NodeReply → ReplyHeader × Option NodeDescriptorConfig
node_said r = (r.header, some_node r.descriptor)

abbrev pub node_read : List ℕ → Outcome (ReplyHeader × Option NodeDescriptorConfig)
node_read reply = mapped node_said (node_reply_in reply)

-- the fields of a power descriptor, where there is one
abbrev pub some_power : Option NodePowerDescriptor → Option PowerDescriptorConfig
some_power (Some d) = Some (power_fields d)
some_power None = None

-- a power reply: its header, and the fields of its descriptor
abbrev pub power_said : PowerReply → ReplyHeader × Option PowerDescriptorConfig
power_said r = (r.header, some_power r.descriptor)

abbrev pub power_read : List ℕ → Outcome (ReplyHeader × Option PowerDescriptorConfig)
power_read reply = mapped power_said (power_reply_in reply)

-- an active reply: its header, and its endpoints, taken from the place that the reader gives
abbrev pub list_said : List ℕ → ListReply → ReplyHeader × List ℕ
list_said reply r = (r.header, entries_at 1 reply r.list)

abbrev pub list_read : List ℕ → Outcome (ReplyHeader × List ℕ)
list_read reply = mapped (list_said reply) (list_reply_in reply)

-- a match reply: its header and its endpoints, or the sequence number and the status of an error
pub data MatchSaid : Type 0 where
  found : ReplyHeader × List ℕ → MatchSaid
  failed : StatusReply → MatchSaid

abbrev pub match_said : List ℕ → MatchReply → MatchSaid
match_said reply (match.Matched r) = found (list_said reply r)
match_said reply (match.Failed r) = failed r

abbrev pub match_read : List ℕ → Outcome MatchSaid
match_read reply = mapped (match_said reply) (match_reply_in reply)

-- the fields of a simple descriptor, where there is one, its lists taken from the places that the reader gives
abbrev pub some_simple : List ℕ → Option SimpleDescriptorFields → Option Endpoint
some_simple reply (Some d) = Some (simple_fields reply d)
some_simple reply None = None

-- a simple reply: its header, and the fields of its descriptor
abbrev pub simple_said : List ℕ → SimpleReply → ReplyHeader × Option Endpoint
simple_said reply r = (r.header, some_simple reply r.descriptor)

abbrev pub simple_read : List ℕ → Outcome (ReplyHeader × Option Endpoint)
simple_read reply = mapped (simple_said reply) (simple_reply_in reply)

-- what an extended address reply adds: two numbers, and the addresses, taken from the place that the reader gives
pub record DevicesSaid : Type 0 where
  pub num_assoc_dev : ℕ
  pub start_index : ℕ
  pub devices : List ℕ

abbrev pub some_devices : List ℕ → Option Associated → Option DevicesSaid
some_devices reply (Some e) =
    Some (record { num_assoc_dev = e.num_assoc_dev; start_index = e.start_index; devices = entries_at 2 reply e.devices })
some_devices reply None = None

-- an address reply without what it adds
abbrev pub bare : AddrReply → AddrReply
bare r = record { seq = r.seq; status = r.status; ieee_addr = r.ieee_addr; nwk_addr = r.nwk_addr; associated = None }

-- an address reply: its fields, and what it adds
abbrev pub addr_said : List ℕ → AddrReply → AddrReply × Option DevicesSaid
addr_said reply r = (bare r, some_devices reply r.associated)

abbrev pub addr_read : List ℕ → Outcome (AddrReply × Option DevicesSaid)
addr_read reply = mapped (addr_said reply) (addr_reply_in reply)

-- ---- what is to be read

-- an address reply's fields, cut, with what an extended one adds
unfoldable pub cut_addr : ℕ → ℕ → IeeeAddress → ShortAddress → Option Associated → AddrReply
cut_addr seq status long a o =
    record {
      seq = seq % 256;
      status = status % 256;
      ieee_addr = ieee_of (long.0 % 256 ^ 8);
      nwk_addr = short_of (a.0 % 65536);
      associated = o;
    }

-- of a device without children an extended reply has two zeros, and behind them no list
unfoldable pub no_devices : Bool → Option Associated
no_devices true = Some (record { num_assoc_dev = 0; start_index = 0; devices = record { start = 14; count = 0 } })
no_devices false = None

-- of a simple reply: the descriptor of the first record with the number; where there is none, NOT_ACTIVE
unfoldable pub cut_simple : ℕ → ShortAddress → Pools → DeviceDescriptorConfig → ℕ → ReplyHeader × Option Endpoint
cut_simple seq a p d n =
    option (cut_header seq NOT_ACTIVE a, None) (λ e. (cut_header seq SUCCESS a, Some (cut_endpoint (endpoint_of p e)))) (endpoint_record d n)

-- ---- the writers

-- each writer's reply is read back, a node reply by both its readers. Document 01's premises: the source of a power descriptor is
-- usable (else the reader refuses it), a list has at most 255 entries, and an error's status is another than SUCCESS. Active and simple
-- errors do not need the last. With two bytes or more behind it a single address reply reads as extended, and an extended one's list
-- goes on into them, so these are read with at most one; the addresses are read whatever stands behind.
pub record RepliesReadBack : Type 0 where
  -- `node_desc_rsp`
  pub node : (seq : ℕ) (a : ShortAddress) (n : NodeDescriptorConfig) → ReadsAs (node_desc_rsp seq a n) node_read (answer (cut_header seq SUCCESS a, Some (cut_node n)))
  -- `descriptor_rsp_error`
  pub node_error : (seq status : ℕ) (a : ShortAddress) → Failing status → ReadsAs (descriptor_rsp_error seq status a) node_read (answer (cut_header seq status a, None))
  -- `node_desc_rsp`, by `parse_node_desc_rsp`
  pub server_mask_of :
      (seq : ℕ) (a : ShortAddress) (n : NodeDescriptorConfig)
      → ReadsAs (node_desc_rsp seq a n) node_desc_rsp_in (answer (rsp_of (cut_header seq SUCCESS a) (Some (n.server_mask % 65536))))
  -- `descriptor_rsp_error`, by `parse_node_desc_rsp`
  pub server_mask_error : (seq status : ℕ) (a : ShortAddress) → Failing status → ReadsAs (descriptor_rsp_error seq status a) node_desc_rsp_in (answer (rsp_of (cut_header seq status a) None))
  -- `power_desc_rsp`
  pub power :
      (seq : ℕ) (a : ShortAddress) (p : PowerDescriptorConfig)
      → ReadsAs (power_desc_rsp seq a p) power_read
      (cond (usable (p.available_power_sources % 16) (source_bits p.current_power_source)) (answer (cut_header seq SUCCESS a, Some (cut_power p))) (refusal 3))
  -- `descriptor_rsp_error`
  pub power_error : (seq status : ℕ) (a : ShortAddress) → Failing status → ReadsAs (descriptor_rsp_error seq status a) power_read (answer (cut_header seq status a, None))
  -- `active_ep_rsp`
  pub active :
      (seq : ℕ) (a : ShortAddress) (d : DeviceDescriptorConfig)
      → ReadsAs (active_ep_rsp seq a d) list_read (answer (cut_header seq SUCCESS a, map (λ x. x % 256) (numbers (used d))))
  -- `active_ep_rsp_error`
  pub active_error : (seq status : ℕ) (a : ShortAddress) → ReadsAs (empty_rsp seq status a) list_read (answer (cut_header seq status a, []))
  -- `match_desc_rsp`
  pub match :
      (seq : ℕ) (a : ShortAddress) (xs : List ℕ)
      → length xs ≤ 255
      → ReadsAs (list_rsp seq a xs) match_read (answer (found (cut_header seq SUCCESS a, map (λ x. x % 256) xs)))
  -- `match_desc_rsp_error`
  pub match_error : (seq status : ℕ) → Failing status → ReadsAs (match_desc_rsp_error seq status) match_read (answer (failed (record { seq = seq % 256; status = status % 256 })))
  -- `simple_desc_rsp`
  pub simple :
      (seq : ℕ) (a : ShortAddress) (p : Pools) (d : DeviceDescriptorConfig) (n : ℕ)
      → ReadsAs (simple_desc_rsp seq a p d n) simple_read (answer (cut_simple seq a p d n))
  -- `simple_desc_rsp_error`
  pub simple_error : (seq status : ℕ) (a : ShortAddress) → ReadsAs (empty_rsp seq status a) simple_read (answer (cut_header seq status a, None))
  -- `addr_rsp`
  pub address :
      (seq : ℕ) (long : IeeeAddress) (a : ShortAddress) (extended : Bool)
      → ReadsAloneAs (addr_rsp seq long a extended) addr_reply_in (answer (cut_addr seq SUCCESS long a (no_devices extended)))
  -- `addr_rsp`, whatever stands behind
  pub addresses :
      (seq : ℕ) (long : IeeeAddress) (a : ShortAddress) (extended : Bool)
      → ReadsAs (addr_rsp seq long a extended) (λ reply. mapped bare (addr_reply_in reply)) (answer (cut_addr seq SUCCESS long a None))
  -- an extended reply with children, which document 02 writes
  pub children :
      (seq : ℕ) (long : IeeeAddress) (a : ShortAddress) (start : ℕ) (xs : List ShortAddress)
      → ReadsAloneAs (addr_rsp_extended seq long a start xs) addr_read
      (answer (
        cut_addr seq SUCCESS long a None,
        Some (record { num_assoc_dev = length xs % 256; start_index = start % 256; devices = map (λ x. x.0 % 65536) (drop start xs) }),
      ))
  -- `addr_rsp_error`
  pub address_error :
      (seq status : ℕ) (long : IeeeAddress) (a : ShortAddress)
      → Failing status
      → ReadsAs (addr_rsp_single seq status long a) addr_reply_in (answer (cut_addr seq status long a None))
  -- `bind_rsp` and `mgmt_leave_rsp`
  pub status : (seq status : ℕ) → ReadsAs (status_rsp seq status) status_reply_in (answer (record { seq = seq % 256; status = status % 256 }))
