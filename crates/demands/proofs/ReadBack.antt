-- Named values have their numbers, and a descriptor or a node request that was written reads back with its fields cut to their
-- widths. Assumes nothing.
use Prim.Native.Nat.{ℕ, ◌+◌, ◌%◌, ◌≤◌}
use native.Mathlib.Omega.{arith}
use mathlib.Core.Path.{◌≡◌, refl}
use mathlib.Core.Bool.{cond}
use mathlib.Core.List.{List, [], ◌++◌, map, append_assoc}
use lib.ListN.{length, length-append}
use lib.Dec.{leb}
use borrow.Author.Tests.{leb-true}
use Rattle.zigbee_types.specs.Outcome.{answer, refusal, and_then, mapped}
use Rattle.zigbee_types.specs.Layout.{laid, cut, fields_at, listed}
use Rattle.zigbee_types.specs.Lists.{find, option}
use Rattle.zigbee_types.specs.Named.{named}
use Rattle.zigbee_types.specs.FieldLaws.{ListsAt}
use Rattle.zigbee_types.specs.declared.ShortAddress.{ShortAddress}
use Rattle.zigbee_types.proofs.Layouts.{laid_back, parses, lists_back}
use Rattle.zigbee_types.proofs.Runs.{laid_append}
use Rattle.zigbee_types.proofs.Named.{named_number}
use Rattle.zigbee_types.proofs.Outcomes.{granted, mapped_granted, wrote_bytes, wrote_answer}
use Rattle.node_descriptor.specs.NodeDescriptor.{type_number, type_names, logical_type_of, node_byte0, node_byte1, node_descriptor_of, node_widths, node_descriptor_in, node_fields}
use Rattle.node_descriptor.specs.declared.descriptor.NodeDescriptorConfig.{NodeDescriptorConfig}
use Rattle.node_descriptor.specs.declared.LogicalType.TheVariants as type
use Rattle.node_descriptor.proofs.Bits.{node_bits}
use Rattle.power_names.specs.Names.{mode_number, mode_names, current_power_mode_of, source_number, source_names, power_source_of, level_number, level_names, current_power_source_level_of, source_bits}
use Rattle.node_power_descriptor.specs.PowerDescriptor.{power_byte0, power_byte1, power_descriptor_of, power_widths, power_descriptor_in, power_fields, usable}
use Rattle.node_power_descriptor.specs.declared.descriptor.PowerDescriptorConfig.{PowerDescriptorConfig}
use Rattle.power_names.specs.declared.CurrentPowerMode.TheVariants as mode
use Rattle.power_names.specs.declared.PowerSource.TheVariants as source
use Rattle.power_names.specs.declared.CurrentPowerSourceLevel.TheVariants as level
use Rattle.node_power_descriptor.proofs.Bits.{power_bits}
use Rattle.simple_descriptor.specs.SimpleDescriptor.{Endpoint, simple_header, simple_descriptor_of, cluster_count, simple_written, simple_widths, simple_of, simple_descriptor_in, simple_fields}
use Rattle.simple_descriptor.proofs.Written.{header_size}
use Rattle.zdo_requests.specs.Requests.{addr_of_interest_widths, addr_of_interest_req_in, addr_of_interest_in, addr_of_interest_fields, node_desc_req}
use Rattle.demands.specs.ReadBack.{NamesStand, NamesReadBack, cut_node, NodeReadsBack, cut_power, PowerReadsBack, cut_endpoint, SimpleReadsBack, cut_node_req, NodeReqReadsBack}
use Rattle.demands.proofs.Frames.{one_layout}

-- ---- named values

-- a number that stands for a named or a reserved value, whatever the names
stand :
    {A : Type 0} (number : A → ℕ) (names : List A) (reserved : ℕ → A)
    → ((k : ℕ) → number (reserved k) ≡ k)
    → map (λ a. named number names reserved (number a)) names ≡ names
    → NamesStand number (named number names reserved) names
stand number names reserved h e = record { numbers = λ n. named_number number names reserved n h; named = e }

pub names_read_back : NamesReadBack
unfolding logical_type_of current_power_mode_of power_source_of current_power_source_level_of named option find
names_read_back =
    record {
      types = stand type_number type_names type.Reserved (λ k. refl) refl;
      modes = stand mode_number mode_names mode.Reserved (λ k. refl) refl;
      sources = stand source_number source_names source.Reserved (λ k. refl) refl;
      levels = stand level_number level_names level.Reserved (λ k. refl) refl;
    }

-- ---- node

-- whatever stands behind it
pub node_back : (n : NodeDescriptorConfig) (rest : List ℕ) → mapped node_fields (node_descriptor_in (laid (node_descriptor_of n) ++ rest)) ≡ answer (cut_node n)
unfolding mapped node_descriptor_in node_descriptor_of cut cut_node
node_back n rest =
    let bits = node_bits n in
    let whole0 : node_byte0 n % 256 ≡ node_byte0 n = omega (arith, bits.above) in
    let whole1 : node_byte1 n % 256 ≡ node_byte1 n = omega (arith, bits.band) in
    rw (parses node_widths _ (node_descriptor_of n) rest (one_layout.node n), whole0, whole1, bits.type, bits.complex, bits.user, bits.band)

pub node_reads_back : NodeReadsBack
node_reads_back n before after told w = rw (wrote_bytes w).left (node_back n _)

-- ---- power

-- whatever stands behind it
pub power_back :
    (p : PowerDescriptorConfig) (rest : List ℕ)
    → mapped power_fields (power_descriptor_in (laid (power_descriptor_of p) ++ rest))
    ≡ cond (usable (p.available_power_sources % 16) (source_bits p.current_power_source)) (answer (cut_power p)) (refusal 3)
unfolding and_then power_descriptor_in power_descriptor_of cut cut_power
power_back p rest =
    let bits = power_bits p in
    let whole0 : power_byte0 p % 256 ≡ power_byte0 p = omega (arith, bits.sources) in
    let whole1 : power_byte1 p % 256 ≡ power_byte1 p = omega (arith, bits.level) in
    rw (parses power_widths _ (power_descriptor_of p) rest (one_layout.power p), whole0, whole1, mapped_granted, bits.mode, bits.sources, bits.source, bits.level)

pub power_reads_back : PowerReadsBack
power_reads_back p before after told w = rw (wrote_bytes w).left (power_back p _)

-- ---- simple

-- four bits of a version are the same, cut to a byte and again
pub version_cut : (v : ℕ) → v % 16 % 256 % 16 ≡ v % 16
version_cut v = omega arith

module _ (e : Endpoint) where
  -- the first fields
  pub simple_front : (rest : List ℕ) → fields_at simple_widths (laid (simple_descriptor_of e) ++ rest) 0 ≡ map cut (simple_header e)
  unfolding simple_descriptor_of
  simple_front rest =
      let inputs : List ℕ = laid (listed 2 e.input_clusters) in
      let outputs : List ℕ = laid (listed 2 e.output_clusters) in
      rw (← one_layout.simple e, laid_append, laid_append, append_assoc, append_assoc) (laid_back [] (inputs ++ (outputs ++ rest)) (simple_header e))

  module _ (few : cluster_count e ≤ 28) where
    -- the lists, wherever the descriptor stands
    pub simple_lists :
        (front rest : List ℕ)
        → ListsAt (front ++ laid (simple_descriptor_of e) ++ rest) (length front + 6) e.input_clusters e.output_clusters
    unfolding simple_descriptor_of cluster_count
    simple_lists front rest =
        let long : length (front ++ laid (simple_header e)) ≡ length front + 6 = rw (length-append, header_size) in
        rw (laid_append, laid_append, ← append_assoc, ← append_assoc, ← long)
        (lists_back (front ++ laid (simple_header e)) e.input_clusters e.output_clusters rest (omega arith) (omega arith))

    -- whatever stands behind it
    pub simple_back :
        (rest : List ℕ)
        → mapped (simple_fields (laid (simple_descriptor_of e) ++ rest)) (simple_descriptor_in (laid (simple_descriptor_of e) ++ rest)) ≡ answer (cut_endpoint e)
    unfolding mapped simple_header cut simple_of simple_descriptor_in simple_fields cut_endpoint
    simple_back rest =
        let lists = simple_lists [] rest in
        rw (lists.places, simple_front rest, lists.first, lists.second, version_cut e.device_version)

pub simple_reads_back : SimpleReadsBack
unfolding simple_written
simple_reads_back e before after told w =
    let (bytes, came, stands) = wrote_answer (simple_written e) w in
    let (few, same) = granted (leb (cluster_count e) 28) (answer (laid (simple_descriptor_of e))) 4 came in
    let whole : bytes ≡ laid (simple_descriptor_of e) = cc in
    rw (stands.left, whole) (simple_back e (leb-true (cluster_count e) 28 few) _)

-- ---- the node request

-- whatever stands behind it
pub node_req_back :
    (seq : ℕ) (a : ShortAddress) (rest : List ℕ) → addr_of_interest_req_in (laid (addr_of_interest_fields seq a) ++ rest) ≡ answer (cut_node_req seq a)
unfolding addr_of_interest_req_in addr_of_interest_fields cut cut_node_req
node_req_back seq a rest = parses addr_of_interest_widths _ (addr_of_interest_fields seq a) rest (one_layout.node_request seq a)

pub node_req_reads_back : NodeReqReadsBack
unfolding mapped addr_of_interest_in node_desc_req cut_node_req
node_req_reads_back seq a before after told w =
    let back : addr_of_interest_req_in after ≡ answer (cut_node_req seq a) = rw (wrote_bytes w).left (node_req_back seq a _) in
    (back, rw back)
