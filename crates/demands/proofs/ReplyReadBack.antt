-- A reply that was written reads back, for each writer and its reader. From the laws of tables of fields, of lists and of descriptors.
-- Assumes nothing.
use Rattle.std.specs.Prelude.{Option, Some, None}
use Prim.Native.Nat.{ℕ, ◌+◌, ◌-◌, ◌*◌, ◌/◌, ◌%◌, ◌≤◌, ◌<◌, min}
use native.Mathlib.Omega.{arith}
use mathlib.Core.Path.{◌≡◌, refl, sym, ap}
use mathlib.Core.Bool.{Bool, true, false, ◌&&◌, cond}
use mathlib.Core.List.{List, [], ◌∷◌, ◌++◌, map, map-map, append_assoc, append-nil}
use lib.Dec.{eqb, leb}
use lib.ListN.{length, take, drop, replicate, length-append, length-map, length-take}
use lib.Seq.{take_at, drop_at}
use borrow.Author.Tests.{ne_eqb, le-leb, lt-leb, leb-true}
use Rattle.zigbee_types.specs.Outcome.{Outcome, answer, refusal, and_then, mapped, needing}
use Rattle.zigbee_types.specs.Bytes.{le, number, number_at}
use Rattle.zigbee_types.specs.Layout.{Field, byte, laid, cut, listed, size, fields_at, entries_at}
use Rattle.zigbee_types.specs.Lists.{part, option}
use Rattle.zigbee_types.specs.FieldLaws.{widths, places_at, ListAt}
use Rattle.zigbee_types.specs.Addresses.{short}
use Rattle.zigbee_types.specs.Statuses.{SUCCESS, NOT_ACTIVE}
use Rattle.zigbee_types.specs.declared.IeeeAddress.{IeeeAddress}
use Rattle.zigbee_types.specs.declared.ShortAddress.{ShortAddress}
use Rattle.zigbee_types.proofs.Layouts.{laid_counted, laid_back, parses, counted_back, length_listed}
use Rattle.zigbee_types.proofs.Runs.{laid_append}
use Rattle.zigbee_types.proofs.Outcomes.{Stands, granted, refused, mapped_granted, wrote_bytes, wrote_answer}
use Rattle.node_descriptor.specs.NodeDescriptor.{node_descriptor_of, node_descriptor_in, node_fields}
use Rattle.node_descriptor.specs.declared.descriptor.NodeDescriptorConfig.{NodeDescriptorConfig}
use Rattle.power_names.specs.Names.{source_bits}
use Rattle.node_power_descriptor.specs.PowerDescriptor.{power_descriptor_of, power_descriptor_in, power_fields, usable}
use Rattle.node_power_descriptor.specs.declared.descriptor.PowerDescriptorConfig.{PowerDescriptorConfig}
use Rattle.simple_descriptor.specs.SimpleDescriptor.{Endpoint, simple_header, simple_descriptor_of, cluster_count, simple_written, simple_of, simple_descriptor_in, simple_fields}
use Rattle.simple_descriptor.specs.declared.SimpleDescriptorFields.{SimpleDescriptorFields}
use Rattle.simple_descriptor.proofs.Written.{simple_length}
use Rattle.zdo_replies.specs.Replies.{header, node_desc_rsp, power_desc_rsp, descriptor_rsp_error, endpoint_list, list_rsp, empty_rsp, match_error_fields, match_desc_rsp_error, described_rsp, addr_header, addr_rsp_single, addr_rsp_extended, addr_rsp, status_fields, status_rsp}
use Rattle.zdo_device.specs.Tables.{Pools, used, endpoint_record, good_device, endpoint_of}
use Rattle.zdo_device.specs.declared.descriptor.EndpointDescriptor.{EndpointDescriptor}
use Rattle.zdo_device.specs.declared.descriptor.DeviceDescriptorConfig.{DeviceDescriptorConfig}
use Rattle.zdo_device_rsp.specs.TableReplies.{numbers, active_rsp_of, active_ep_rsp, simple_rsp_of, simple_desc_rsp}
use Rattle.zdo_device_rsp.proofs.Described.{as_list}
use Rattle.zdo_readers.specs.Readers.{header_widths, header_in, NodeReply, with_descriptor, without_descriptor, descriptor_reply_in, node_reply_in, node_desc_rsp_in, power_reply_in, associated_in, addr_widths, addr_reply_in, status_widths, status_reply_in}
use Rattle.zdo_readers.specs.declared.readers.ReplyHeader.{ReplyHeader}
use Rattle.zdo_readers.specs.declared.readers.DescriptorReply.{DescriptorReply}
use Rattle.zdo_list_readers.specs.ListReaders.{list_behind, list_reply_in, match_error_widths, match_reply_in_as, match_reply_in, shifted, shifted_fields, simple_within, simple_reply_in}
use Rattle.demands.specs.ReplyReadBack.{ReadsAs, ReadsAloneAs, Failing, cut_header, some_node, node_said, node_read, power_said, power_read, list_said, list_read, found, failed, match_read, simple_said, simple_read, addr_read, bare, cut_addr, no_devices, cut_simple, RepliesReadBack}
use Rattle.demands.specs.TwoReaders.{mask_of, rsp_of, in_brief}
use Rattle.demands.specs.ReadBack.{cut_node, cut_power, cut_endpoint}
use Rattle.demands.proofs.Frames.{one_layout}
use Rattle.demands.proofs.TwoReaders.{node_readers_agree}
use Rattle.demands.proofs.ReadBack.{node_back, power_back, version_cut, simple_front, simple_lists}
use Rattle.node_descriptor.specs.declared.NodeDescriptor.{NodeDescriptor}

-- ---- what was sent

-- as many bytes as were told are the reply
sent : {bytes before after : List ℕ} {told : ℕ} → Stands bytes before told after → take told after ≡ bytes
sent {bytes} {before} {after} {told} s = rw s.left (take_at bytes (drop (length bytes) before) told (sym s.long))

-- so what reads a reply's bytes reads what was sent
sent_back :
    {R : Type 0} (bytes : List ℕ) (read : List ℕ → Outcome R) (r : Outcome R) → ((rest : List ℕ) → read (bytes ++ rest) ≡ r) → ReadsAs (answer bytes) read r
sent_back bytes read r back before after rest told w = rw (sent (wrote_bytes w)) (back rest)

-- ---- the header

header_long : (seq status : ℕ) (a : ShortAddress) → length (laid (header seq status a)) ≡ 4
unfolding header laid le
header_long seq status a = refl

header_back : (seq status : ℕ) (a : ShortAddress) (rest : List ℕ) → header_in (laid (header seq status a) ++ rest) ≡ answer (cut_header seq status a)
unfolding header_in header cut cut_header
header_back seq status a rest = parses header_widths _ (header seq status a) rest (one_layout.header seq status a)

-- ---- node and power

-- a reader of a descriptor behind the header; and what its reply says, by the fields of the descriptor
module _
    {D C : Type 0} (descriptorIn : List ℕ → Outcome D)
    (fields : D → C) (said : DescriptorReply D → ReplyHeader × Option C)
    (seq : ℕ) (a : ShortAddress)
  where
    -- with SUCCESS, the fields that are read behind the header
    described_back :
        (fs : List Field) (rest : List ℕ)
        → ((h : ReplyHeader) (d : D) → said (with_descriptor h d) ≡ (h, Some (fields d)))
        → mapped said (descriptor_reply_in descriptorIn (laid (header seq SUCCESS a ++ fs) ++ rest))
        ≡ mapped (λ c. (cut_header seq SUCCESS a, Some c)) (mapped fields (descriptorIn (laid fs ++ rest)))
    unfolding descriptor_reply_in and_then mapped cut_header
    described_back fs rest e =
        let there : drop 4 (laid (header seq SUCCESS a) ++ (laid fs ++ rest)) ≡ laid fs ++ rest =
        drop_at (laid (header seq SUCCESS a)) (laid fs ++ rest) 4 (header_long seq SUCCESS a) in
        rw (laid_append, append_assoc, header_back, there) (go (descriptorIn (laid fs ++ rest)))
      where
        go :
            (o : Outcome D)
            → mapped said (mapped (with_descriptor (cut_header seq SUCCESS a)) o) ≡ mapped (λ c. (cut_header seq SUCCESS a, Some c)) (mapped fields o)
        go (answer d) = ap answer (e (cut_header seq SUCCESS a) d)
        go (refusal n) = refl

    -- with another status, nothing
    error_back :
        (status : ℕ) (rest : List ℕ)
        → Failing status
        → mapped said (descriptor_reply_in descriptorIn (laid (header seq status a) ++ rest)) ≡ answer (said (without_descriptor (cut_header seq status a)))
    unfolding descriptor_reply_in and_then mapped cut_header
    error_back status rest other = rw (header_back, ne_eqb _ _ other)

-- the server mask of a descriptor's fields, where there are any
abbrev mask_from : Option NodeDescriptorConfig → Option ℕ
mask_from (Some c) = Some c.server_mask
mask_from None = None

mask_from_lem : (d : Option NodeDescriptor) → mask_from (some_node d) ≡ mask_of d
mask_from_lem (Some d) = refl
mask_from_lem None = refl

-- what the reader of whole replies says, the other says of the mask
mask_read :
    (reply : List ℕ) (h : ReplyHeader) (o : Option NodeDescriptorConfig)
    → node_read reply ≡ answer (h, o)
    → node_desc_rsp_in reply
    ≡ answer (rsp_of h (mask_from o))
unfolding mapped in_brief
mask_read reply h o e = go (node_reply_in reply) refl e
  where
    go :
        (q : Outcome NodeReply)
        → node_reply_in reply ≡ q
        → mapped node_said q ≡ answer (h, o)
        → node_desc_rsp_in reply
        ≡ answer (rsp_of h (mask_from o))
    go (answer r) is said =
        let same : node_said r ≡ (h, o) = cc said in
        let header-same : r.header ≡ h = ap (λ (x : ReplyHeader × Option NodeDescriptorConfig). x.0) same in
        let fields-same : some_node r.descriptor ≡ o = ap (λ (x : ReplyHeader × Option NodeDescriptorConfig). x.1) same in
        rw (node_readers_agree reply r is, ← mask_from_lem r.descriptor, header-same, fields-same)
    go (refusal n) is said = absurd (refused said)

module _ (seq : ℕ) (a : ShortAddress) where
  node_reply_back : (n : NodeDescriptorConfig) → ReadsAs (node_desc_rsp seq a n) node_read (answer (cut_header seq SUCCESS a, Some (cut_node n)))
  unfolding node_desc_rsp node_reply_in mapped
  node_reply_back n =
      sent_back _ node_read _
      (λ rest. rw (described_back node_descriptor_in node_fields node_said seq a (node_descriptor_of n) rest (λ h d. refl), node_back n rest))

  node_error_back : (status : ℕ) → Failing status → ReadsAs (descriptor_rsp_error seq status a) node_read (answer (cut_header seq status a, None))
  unfolding descriptor_rsp_error node_reply_in
  node_error_back status other =
      sent_back _ node_read _ (λ rest. error_back node_descriptor_in node_fields node_said seq a status rest other)

  mask_back :
      (n : NodeDescriptorConfig)
      → ReadsAs (node_desc_rsp seq a n) node_desc_rsp_in (answer (rsp_of (cut_header seq SUCCESS a) (Some (n.server_mask % 65536))))
  unfolding cut_node
  mask_back n before after rest told w = mask_read (take told after ++ rest) _ _ (node_reply_back n before after rest told w)

  mask_error_back : (status : ℕ) → Failing status → ReadsAs (descriptor_rsp_error seq status a) node_desc_rsp_in (answer (rsp_of (cut_header seq status a) None))
  mask_error_back status other before after rest told w =
      mask_read (take told after ++ rest) _ _ (node_error_back status other before after rest told w)

  power_reply_back :
      (p : PowerDescriptorConfig)
      → ReadsAs (power_desc_rsp seq a p) power_read
      (cond (usable (p.available_power_sources % 16) (source_bits p.current_power_source)) (answer (cut_header seq SUCCESS a, Some (cut_power p))) (refusal 3))
  unfolding power_desc_rsp power_reply_in
  power_reply_back p =
      sent_back _ power_read _
      (λ rest. rw (described_back power_descriptor_in power_fields power_said seq a (power_descriptor_of p) rest (λ h d. refl), power_back p rest, mapped_granted))

  power_error_back : (status : ℕ) → Failing status → ReadsAs (descriptor_rsp_error seq status a) power_read (answer (cut_header seq status a, None))
  unfolding descriptor_rsp_error power_reply_in
  power_error_back status other =
      sent_back _ power_read _ (λ rest. error_back power_descriptor_in power_fields power_said seq a status rest other)

-- ---- lists

-- at most 255 endpoints are a list as any other
endpoints_listed : (xs : List ℕ) → length xs ≤ 255 → endpoint_list xs ≡ listed 1 xs
unfolding endpoint_list listed
endpoints_listed xs few = let all : min (length xs) 255 ≡ length xs = omega arith in rw all

module _ (seq status : ℕ) (a : ShortAddress) (xs rest : List ℕ) (few : length xs ≤ 255) where
  abbrev reply : List ℕ
  reply = laid (header seq status a ++ listed 1 xs) ++ rest

  -- the list stands behind its count
  there : ListAt 1 reply 4 xs
  there = rw (header_long, ← laid_append) at (counted_back (laid (header seq status a)) rest 1 xs (omega arith))

  -- and is whole
  room : 4 + 1 + 1 * length xs ≤ length reply
  room = rw (length-append, laid_append, length-append, header_long, length_listed) (omega arith)

  -- so it is read
  list_places : list_reply_in reply ≡ answer (record { header = cut_header seq status a; list = places_at 4 (length xs) })
  unfolding list_reply_in list_behind and_then needing
  list_places =
      let front : header_in reply ≡ answer (cut_header seq status a) = rw (laid_append, append_assoc) (header_back seq status a (laid (listed 1 xs) ++ rest)) in
      rw (front, there.next, le-leb _ _ room, there.place)

  list_back : mapped (list_said reply) (list_reply_in reply) ≡ answer (cut_header seq status a, map (λ x. x % 256) xs)
  unfolding mapped
  list_back = rw (list_places, there.entries)

-- ---- active and match

-- the records in use are at most 255
used_few : (d : DeviceDescriptorConfig) → d.endpoint_count ≤ 32 → length (numbers (used d)) ≤ 255
unfolding numbers used
used_few d h = rw (length-map, length-take) (omega arith)

-- the second byte
second_back : (seq status : ℕ) (fs : List Field) (rest : List ℕ) → number_at 1 (laid (byte seq ∷ byte status ∷ fs) ++ rest) 1 ≡ status % 256
unfolding laid le number_at number
second_back seq status fs rest = omega arith

module _ (seq : ℕ) (a : ShortAddress) where
  active_back :
      (d : DeviceDescriptorConfig) → ReadsAs (active_ep_rsp seq a d) list_read (answer (cut_header seq SUCCESS a, map (λ x. x % 256) (numbers (used d))))
  unfolding active_ep_rsp active_rsp_of list_rsp cut_header
  active_back d before after rest told w =
      let (bytes, came, stands) = wrote_answer (active_ep_rsp seq a d) w in
      let (held, same) = granted (leb d.endpoint_count 32) (active_rsp_of seq a (used d)) 1 came in
      let few : length (numbers (used d)) ≤ 255 = used_few d (leb-true _ _ held) in
      let whole : bytes ≡ laid (header seq SUCCESS a ++ listed 1 (numbers (used d))) = rw (← endpoints_listed _ few) cc in
      rw (sent stands, whole) (list_back seq SUCCESS a (numbers (used d)) rest few)

  active_error_back : (status : ℕ) → ReadsAs (empty_rsp seq status a) list_read (answer (cut_header seq status a, []))
  unfolding empty_rsp listed
  active_error_back status = sent_back _ list_read _ (λ rest. list_back seq status a [] rest (omega arith))

  match_back :
      (xs : List ℕ) → length xs ≤ 255 → ReadsAs (list_rsp seq a xs) match_read (answer (found (cut_header seq SUCCESS a, map (λ x. x % 256) xs)))
  unfolding list_rsp match_reply_in match_reply_in_as mapped header
  match_back xs few =
      rw (endpoints_listed xs few)
      (sent_back _ match_read _
      (λ rest.
      rw (second_back seq SUCCESS _ rest, list_places seq SUCCESS a xs rest few, (there seq SUCCESS a xs rest few).entries)))

match_error_back : (seq status : ℕ) → Failing status → ReadsAs (match_desc_rsp_error seq status) match_read (answer (failed (record { seq = seq % 256; status = status % 256 })))
unfolding match_desc_rsp_error match_reply_in match_reply_in_as mapped match_error_fields cut
match_error_back seq status other =
    sent_back _ match_read _
    (λ rest.
    rw (second_back seq status _ rest, ne_eqb _ _ other, parses match_error_widths _ (match_error_fields seq status) rest (one_layout.match_error seq status)))

-- ---- bind, unbind and leave

status_reply_back : (seq status : ℕ) → ReadsAs (status_rsp seq status) status_reply_in (answer (record { seq = seq % 256; status = status % 256 }))
unfolding status_rsp status_reply_in status_fields cut
status_reply_back seq status =
    sent_back _ status_reply_in _ (λ rest. parses status_widths _ (status_fields seq status) rest (one_layout.status seq status))

-- ---- simple

-- a part of bytes that have something before it and behind it
part_back : (front body rest : List ℕ) (m n : ℕ) → length front ≡ m → length body ≡ n → part m n (front ++ body ++ rest) ≡ body
part_back front body rest m n e f = rw (append_assoc, drop_at front (body ++ rest) m e, take_at body rest n f)

module _ (seq : ℕ) (a : ShortAddress) (e : Endpoint) (few : cluster_count e ≤ 28) where
  -- the bytes of the descriptor, and those before it
  abbrev bytes : List ℕ
  bytes = laid (simple_descriptor_of e)

  abbrev front : List ℕ
  front = laid (header seq SUCCESS a ++ byte (length bytes) ∷ [])

  front_long : length front ≡ 5
  unfolding header laid le
  front_long = refl

  few_bytes : length bytes ≤ 255
  few_bytes = omega (arith, simple_length e)

  -- the reply is, byte for byte, that of a list of bytes
  replied : front ++ bytes ≡ laid (header seq SUCCESS a ++ listed 1 bytes)
  unfolding list_rsp
  replied = let same = as_list seq a (simple_descriptor_of e) few_bytes in rw (← endpoints_listed bytes few_bytes) cc

  -- the descriptor within its length is read with its lists counted from the start of the reply
  descriptor_back :
      (rest : List ℕ)
      → mapped (λ d. simple_fields (front ++ bytes ++ rest) (shifted_fields 5 d)) (simple_descriptor_in bytes) ≡ answer (cut_endpoint e)
  unfolding mapped simple_header cut simple_of simple_descriptor_in simple_fields cut_endpoint shifted_fields shifted
  descriptor_back rest =
      let own = rw append-nil at (simple_lists e few [] []) in
      let whole = rw front_long at (simple_lists e few front rest) in
      let place : 5 + (6 + 1 + 2 * length e.input_clusters + 1) ≡ 11 + 1 + 2 * length e.input_clusters + 1 = omega arith in
      rw (own.places, rw append-nil at (simple_front e []), place, whole.first, whole.second, version_cut e.device_version)

  described_reply_back : (rest : List ℕ) → simple_read (front ++ bytes ++ rest) ≡ answer (cut_header seq SUCCESS a, Some (cut_endpoint e))
  unfolding simple_reply_in and_then simple_within mapped
  described_reply_back rest =
      let not_none : length bytes ≡ 0 → ⊥ = λ z. omega (arith, z, simple_length e) in
      let listed-there = rw (← replied) at (list_places seq SUCCESS a bytes rest few_bytes) in
      rw (listed-there, ne_eqb _ _ not_none, part_back front bytes rest 5 (length bytes) front_long refl) (go (simple_descriptor_in bytes) (descriptor_back rest))
    where
      go :
          (o : Outcome SimpleDescriptorFields)
          → mapped (λ d. simple_fields (front ++ bytes ++ rest) (shifted_fields 5 d)) o ≡ answer (cut_endpoint e)
          → mapped (simple_said (front ++ bytes ++ rest)) (mapped (λ d. record { header = cut_header seq SUCCESS a; descriptor = Some (shifted_fields 5 d) }) o)
          ≡ answer (cut_header seq SUCCESS a, Some (cut_endpoint e))
      go (answer d) t = cc
      go (refusal n) t = absurd (refused t)

module _ (seq : ℕ) (a : ShortAddress) where
  empty_reply_back : (status : ℕ) (rest : List ℕ) → simple_read (laid (header seq status a ++ byte 0 ∷ []) ++ rest) ≡ answer (cut_header seq status a, None)
  unfolding simple_reply_in and_then simple_within mapped listed
  empty_reply_back status rest = rw (list_places seq status a [] rest (omega arith))

  -- what an endpoint's reply comes to
  simple_one_back :
      (e : Endpoint) {bytes : List ℕ} (rest : List ℕ)
      → described_rsp seq a e ≡ answer bytes
      → simple_read (bytes ++ rest) ≡ answer (cut_header seq SUCCESS a, Some (cut_endpoint e))
  unfolding described_rsp simple_written and_then
  simple_one_back e {bytes} rest came = go (leb (cluster_count e) 28) refl came
    where
      go :
          (t : Bool)
          → leb (cluster_count e) 28 ≡ t
          → and_then (cond t (answer (laid (simple_descriptor_of e))) (refusal 4)) (λ d. answer (laid (header seq SUCCESS a ++ byte (length d) ∷ []) ++ d))
          ≡ answer bytes
          → simple_read (bytes ++ rest) ≡ answer (cut_header seq SUCCESS a, Some (cut_endpoint e))
      go true t is =
          let few : cluster_count e ≤ 28 = leb-true (cluster_count e) 28 t in
          let whole : bytes ≡ front seq a e few ++ laid (simple_descriptor_of e) = cc in
          rw whole (described_reply_back seq a e few rest)
      go false t is = absurd (refused is)

  simple_reply_back :
      (p : Pools) (d : DeviceDescriptorConfig) (n : ℕ) → ReadsAs (simple_desc_rsp seq a p d n) simple_read (answer (cut_simple seq a p d n))
  unfolding simple_desc_rsp simple_rsp_of empty_rsp option cut_simple
  simple_reply_back p d n before after rest told w =
      let (bytes, came, stands) = wrote_answer (simple_desc_rsp seq a p d n) w in
      let (_, same) = granted (good_device p d) (simple_rsp_of seq a p d n) 1 came in
      rw (sent stands) (go (endpoint_record d n) bytes same)
    where
      go :
          (o : Option EndpointDescriptor) (reply : List ℕ)
          → option (empty_rsp seq NOT_ACTIVE a) (λ e. described_rsp seq a (endpoint_of p e)) o ≡ answer reply
          → simple_read (reply ++ rest) ≡ answer (option (cut_header seq NOT_ACTIVE a, None) (λ e. (cut_header seq SUCCESS a, Some (cut_endpoint (endpoint_of p e)))) o)
      go None reply is =
          let whole : reply ≡ laid (header seq NOT_ACTIVE a ++ byte 0 ∷ []) = cc in
          rw whole (empty_reply_back NOT_ACTIVE rest)
      go (Some e) reply is = simple_one_back (endpoint_of p e) rest is

  simple_error_back : (status : ℕ) → ReadsAs (empty_rsp seq status a) simple_read (answer (cut_header seq status a, None))
  unfolding empty_rsp
  simple_error_back status = sent_back _ simple_read _ (empty_reply_back status)

-- ---- addresses

addr_long : (seq status : ℕ) (long : IeeeAddress) (a : ShortAddress) → length (laid (addr_header seq status long a)) ≡ 12
unfolding addr_header laid le
addr_long seq status long a = refl

module _ (seq status : ℕ) (long : IeeeAddress) (a : ShortAddress) where
  -- the fields in front, and what is read behind them
  addr_front :
      (rest : List ℕ)
      → let reply = laid (addr_header seq status long a) ++ rest in
      addr_reply_in reply ≡ answer (cut_addr seq status long a (associated_in (eqb (status % 256) SUCCESS && leb 14 (length reply)) reply))
  unfolding addr_reply_in addr_header cut cut_addr
  addr_front rest = parses addr_widths _ (addr_header seq status long a) rest (one_layout.address seq status long a)

  addr_error_back : Failing status → ReadsAs (addr_rsp_single seq status long a) addr_reply_in (answer (cut_addr seq status long a None))
  unfolding addr_rsp_single associated_in
  addr_error_back other = sent_back _ addr_reply_in _ (λ rest. rw (addr_front rest, ne_eqb _ _ other))

-- short addresses as fields: two bytes each
shorts_widths : (xs : List ShortAddress) → widths (map short xs) ≡ replicate (length xs) 2
shorts_widths [] = refl
shorts_widths (x ∷ xs) = rw (shorts_widths xs)

shorts_size : (xs : List ShortAddress) → size (widths (map short xs)) ≡ 2 * length xs
unfolding size
shorts_size [] = refl
shorts_size (x ∷ xs) = omega (arith, shorts_size xs)

shorts_cut : (xs : List ShortAddress) → map cut (map short xs) ≡ map (λ x. x.0 % 65536) xs
unfolding cut
shorts_cut xs = map-map cut short xs

module _ (seq : ℕ) (long : IeeeAddress) (a : ShortAddress) where
  -- twelve bytes and at most one more are single
  single_back :
      (rest : List ℕ) → length rest ≤ 1 → addr_reply_in (laid (addr_header seq SUCCESS long a) ++ rest) ≡ answer (cut_addr seq SUCCESS long a None)
  unfolding associated_in
  single_back rest few =
      let under : length (laid (addr_header seq SUCCESS long a) ++ rest) < 14 = rw (length-append, addr_long) (omega arith) in
      rw (addr_front seq SUCCESS long a rest, lt-leb _ _ under)

  -- two fields more, and addresses behind them
  module _ (n start : ℕ) (xs : List ShortAddress) (rest : List ℕ) where
    abbrev added : List Field
    added = byte n ∷ byte start ∷ map short xs

    abbrev whole : List ℕ
    whole = laid (addr_header seq SUCCESS long a ++ added) ++ rest

    -- behind the fields in front
    behind_front : laid (addr_header seq SUCCESS long a) ++ (laid added ++ rest) ≡ whole
    behind_front = rw (laid_append, append_assoc)

    whole_long : length whole ≡ 14 + 2 * length xs + length rest
    unfolding size
    whole_long = rw (length-append, laid_append, length-append, addr_long, laid_counted) (omega (arith, shorts_size xs))

    added_there : fields_at (1 ∷ 1 ∷ replicate (length xs) 2) whole 12 ≡ n % 256 ∷ start % 256 ∷ map (λ x. x.0 % 65536) xs
    unfolding cut
    added_there = rw (addr_long, ← laid_append, shorts_widths, shorts_cut) at (laid_back (laid (addr_header seq SUCCESS long a)) rest added)

    devices_back : entries_at 2 whole (record { start = 14; count = length xs }) ≡ map (λ x. x.0 % 65536) xs
    unfolding entries_at fields_at
    devices_back = cc added_there

    extended_back :
        length rest ≤ 1
        → addr_reply_in whole
        ≡ answer
        (cut_addr seq SUCCESS long a
        (Some (record { num_assoc_dev = n % 256; start_index = start % 256; devices = record { start = 14; count = length xs } })))
    unfolding associated_in fields_at
    extended_back few =
        let first : number_at 1 whole 12 ≡ n % 256 = cc added_there in
        let second : number_at 1 whole 13 ≡ start % 256 = cc added_there in
        let count : (length whole - 14) / 2 ≡ length xs = omega (arith, whole_long) in
        let room : 14 ≤ length whole = omega (arith, whole_long) in
        let front = rw behind_front at (addr_front seq SUCCESS long a (laid added ++ rest)) in
        rw (front, le-leb _ _ room, first, second, count)

  addr_back : (extended : Bool) → ReadsAloneAs (addr_rsp seq long a extended) addr_reply_in (answer (cut_addr seq SUCCESS long a (no_devices extended)))
  unfolding addr_rsp addr_rsp_single addr_rsp_extended no_devices
  addr_back false before after rest told few w = rw (sent (wrote_bytes w)) (single_back rest few)
  addr_back true before after rest told few w = rw (sent (wrote_bytes w)) (extended_back 0 0 [] rest few)

  addresses_back :
      (extended : Bool)
      → ReadsAs (addr_rsp seq long a extended) (λ reply. mapped bare (addr_reply_in reply)) (answer (cut_addr seq SUCCESS long a None))
  unfolding addr_rsp addr_rsp_single addr_rsp_extended mapped cut_addr
  addresses_back false = sent_back _ (λ reply. mapped bare (addr_reply_in reply)) _ (λ rest. rw (addr_front seq SUCCESS long a rest))
  addresses_back true =
      sent_back _ (λ reply. mapped bare (addr_reply_in reply)) _
      (λ rest. rw (← behind_front 0 0 [] rest, addr_front seq SUCCESS long a (laid (added 0 0 [] rest) ++ rest)))

  children_back :
      (start : ℕ) (xs : List ShortAddress)
      → ReadsAloneAs (addr_rsp_extended seq long a start xs) addr_read
      (answer (
        cut_addr seq SUCCESS long a None,
        Some (record { num_assoc_dev = length xs % 256; start_index = start % 256; devices = map (λ x. x.0 % 65536) (drop start xs) }),
      ))
  unfolding addr_rsp_extended mapped cut_addr
  children_back start xs before after rest told few w =
      rw (sent (wrote_bytes w), extended_back (length xs) start (drop start xs) rest few, devices_back (length xs) start (drop start xs) rest)

-- ---- all of them

pub replies_read_back : RepliesReadBack
replies_read_back =
    record {
      node = node_reply_back;
      node_error = λ seq status a. node_error_back seq a status;
      server_mask_of = mask_back;
      server_mask_error = λ seq status a. mask_error_back seq a status;
      power = power_reply_back;
      power_error = λ seq status a. power_error_back seq a status;
      active = active_back;
      active_error = λ seq status a. active_error_back seq a status;
      match = λ seq a xs few. match_back seq a xs (omega arith);
      match_error = match_error_back;
      simple = simple_reply_back;
      simple_error = λ seq status a. simple_error_back seq a status;
      address = addr_back;
      addresses = addresses_back;
      children = children_back;
      address_error = addr_error_back;
      status = status_reply_back;
    }
