-- What numbers stand for in fields of named values, and that what the writer of a descriptor or of a node request wrote is read
-- as the fields that it was given, cut to their widths, as statements (document 01, modules 2 to 5). A term of each stands in
-- proofs/.
use Rattle.std.specs.Prelude.{ℕ, ◌%◌, ◌≡◌, cond, List, [], ◌∷◌, map}
use Rattle.zigbee_types.specs.Outcome.{answer, refusal, mapped, Wrote}
use Rattle.zigbee_types.specs.Layout.{laid}
use Rattle.zigbee_types.specs.Addresses.{short_of}
use Rattle.zigbee_types.specs.declared.ShortAddress.{ShortAddress}
use Rattle.node_descriptor.specs.NodeDescriptor.{type_number, type_bits, logical_type_of, node_descriptor_of, node_descriptor_in, node_fields}
use Rattle.node_descriptor.specs.declared.descriptor.NodeDescriptorConfig.{NodeDescriptorConfig}
use Rattle.node_descriptor.specs.declared.LogicalType.TheVariants as type
use Rattle.power_names.specs.Names.{mode_number, mode_bits, current_power_mode_of, source_number, source_bits, power_source_of, level_number, level_bits, current_power_source_level_of}
use Rattle.node_power_descriptor.specs.PowerDescriptor.{power_descriptor_of, power_descriptor_in, power_fields, usable}
use Rattle.node_power_descriptor.specs.declared.descriptor.PowerDescriptorConfig.{PowerDescriptorConfig}
use Rattle.power_names.specs.declared.CurrentPowerMode.TheVariants as mode
use Rattle.power_names.specs.declared.PowerSource.TheVariants as source
use Rattle.power_names.specs.declared.CurrentPowerSourceLevel.TheVariants as level
use Rattle.simple_descriptor.specs.SimpleDescriptor.{Endpoint, simple_written, simple_descriptor_in, simple_fields}
use Rattle.zdo_requests.specs.Requests.{addr_of_interest_req_in, addr_of_interest_in, node_desc_req}
use Rattle.zdo_requests.specs.declared.descriptor.AddrOfInterestReq.{AddrOfInterestReq}

-- ---- named values

-- a field of named and reserved values: what a number stands for has that number, and each of the names is what its own number
-- stands for
pub record NamesStand {A : Type 0} (number : A → ℕ) (value : ℕ → A) (names : List A) : Type 0 where
  pub numbers : (n : ℕ) → number (value n) ≡ n
  pub named : map (λ a. value (number a)) names ≡ names

-- so it is with each such field, and the list has every value but the reserved ones: a number that no name has stands for the
-- reserved value that holds it
pub record NamesReadBack : Type 0 where
  pub types : NamesStand type_number logical_type_of (type.Coordinator ∷ type.Router ∷ type.EndDevice ∷ [])
  pub modes : NamesStand mode_number current_power_mode_of (mode.Synchronized ∷ mode.Periodically ∷ mode.Stimulated ∷ [])
  pub sources : NamesStand source_number power_source_of (source.ConstantMainPower ∷ source.RechargeableBattery ∷ source.DisposableBattery ∷ [])
  pub levels : NamesStand level_number current_power_source_level_of (level.Critical ∷ level.OneThird ∷ level.TwoThirds ∷ level.Full ∷ [])

-- ---- descriptors

-- a node's fields, cut: three bits of type, five of band, and the bytes of the others. A reserved type that, once cut, has the
-- number of a named one is that one.
unfoldable pub cut_node : NodeDescriptorConfig → NodeDescriptorConfig
cut_node n =
    record {
      logical_type = logical_type_of (type_bits n.logical_type);
      complex_descriptor_available = n.complex_descriptor_available;
      user_descriptor_available = n.user_descriptor_available;
      frequency_band = n.frequency_band % 32;
      mac_capability_flags = n.mac_capability_flags % 256;
      manufacturer_code = n.manufacturer_code % 65536;
      maximum_buffer_size = n.maximum_buffer_size % 256;
      maximum_incoming_transfer_size = n.maximum_incoming_transfer_size % 65536;
      server_mask = n.server_mask % 65536;
      maximum_outgoing_transfer_size = n.maximum_outgoing_transfer_size % 65536;
      descriptor_capability_field = n.descriptor_capability_field % 256;
    }

-- a node descriptor that was written reads back, always
abbrev pub NodeReadsBack : Type 0
NodeReadsBack =
    (n : NodeDescriptorConfig) (before after : List ℕ) (told : ℕ)
    → Wrote (answer (laid (node_descriptor_of n))) before (answer told) after
    → mapped node_fields (node_descriptor_in after) ≡ answer (cut_node n)

-- a power descriptor's fields, cut to four bits each. A reserved number that, once cut, is that of a named value is that value.
unfoldable pub cut_power : PowerDescriptorConfig → PowerDescriptorConfig
cut_power p =
    record {
      current_power_mode = current_power_mode_of (mode_bits p.current_power_mode);
      available_power_sources = p.available_power_sources % 16;
      current_power_source = power_source_of (source_bits p.current_power_source);
      current_power_source_level = current_power_source_level_of (level_bits p.current_power_source_level);
    }

-- a power descriptor that was written reads back where its source is 1, 2 or 4 and available; else the reader refuses it
abbrev pub PowerReadsBack : Type 0
PowerReadsBack =
    (p : PowerDescriptorConfig) (before after : List ℕ) (told : ℕ)
    → Wrote (answer (laid (power_descriptor_of p))) before (answer told) after
    → mapped power_fields (power_descriptor_in after)
    ≡ cond (usable (p.available_power_sources % 16) (source_bits p.current_power_source)) (answer (cut_power p)) (refusal 3)

-- an endpoint's fields, cut: four bits of version, and the bytes of the others
unfoldable pub cut_endpoint : Endpoint → Endpoint
cut_endpoint e =
    record {
      endpoint = e.endpoint % 256;
      profile_id = e.profile_id % 65536;
      device_id = e.device_id % 65536;
      device_version = e.device_version % 16;
      input_clusters = map (λ c. c % 65536) e.input_clusters;
      output_clusters = map (λ c. c % 65536) e.output_clusters;
    }

-- a simple descriptor that was written at all reads back, its lists taken from the places that the reader gives
abbrev pub SimpleReadsBack : Type 0
SimpleReadsBack =
    (e : Endpoint) (before after : List ℕ) (told : ℕ)
    → Wrote (simple_written e) before (answer told) after
    → mapped (simple_fields after) (simple_descriptor_in after) ≡ answer (cut_endpoint e)

-- ---- the node request

-- seq and address, cut to one byte and to two
unfoldable pub cut_node_req : ℕ → ShortAddress → AddrOfInterestReq
cut_node_req seq address = record { seq = seq % 256; nwk_addr_of_interest = short_of (address.0 % 65536) }

-- a node request that was written is parsed back, whatever stands behind it: both fields, and by the other parser the address alone
abbrev pub NodeReqReadsBack : Type 0
NodeReqReadsBack =
    (seq : ℕ) (address : ShortAddress) (before after : List ℕ) (told : ℕ)
    → Wrote (node_desc_req seq address) before (answer told) after
    → (addr_of_interest_req_in after ≡ answer (cut_node_req seq address))
    × (addr_of_interest_in after ≡ answer (short_of (address.0 % 65536)))
