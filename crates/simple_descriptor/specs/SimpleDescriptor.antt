-- The simple descriptor (2.3.2.5): what one endpoint is, and its clusters (document 01, module 4).
use Rattle.std.specs.Prelude.{ℕ, ◌+◌, ◌%◌, cond, List, [], ◌∷◌, ◌++◌, leb, length}
use Rattle.zigbee_types.specs.Outcome.{Outcome, answer, refusal, mapped}
use Rattle.zigbee_types.specs.Layout.{Field, byte, word, laid, field_of, listed, entries_at, lists_in}
use Rattle.zigbee_types.specs.declared.ClusterLists.{ClusterLists}
use Rattle.simple_descriptor.specs.declared.SimpleDescriptorFields.{SimpleDescriptorFields}

-- an endpoint with its two lists of clusters
pub record Endpoint : Type 0 where
  pub endpoint : ℕ
  pub profile_id : ℕ
  pub device_id : ℕ
  pub device_version : ℕ
  pub input_clusters : List ℕ
  pub output_clusters : List ℕ

-- the endpoint that has these
abbrev pub endpoint_with : ℕ → ℕ → ℕ → ℕ → List ℕ → List ℕ → Endpoint
endpoint_with endpoint profile device version inputs outputs =
    record {
      endpoint = endpoint;
      profile_id = profile;
      device_id = device;
      device_version = version;
      input_clusters = inputs;
      output_clusters = outputs;
    }

-- ---- writing

-- endpoint, profile, device, version modulo 16
unfoldable pub simple_header : Endpoint → List Field
simple_header e = byte e.endpoint ∷ word e.profile_id ∷ word e.device_id ∷ byte (e.device_version % 16) ∷ []

-- 2.3.2.5: these, then inputs and outputs, each list with its count and two bytes for each cluster
unfoldable pub simple_descriptor_of : Endpoint → List Field
simple_descriptor_of e = simple_header e ++ listed 2 e.input_clusters ++ listed 2 e.output_clusters

-- how many clusters an endpoint has
unfoldable pub cluster_count : Endpoint → ℕ
cluster_count e = length e.input_clusters + length e.output_clusters

-- refusal 4: a descriptor whose two counts sum to more than 28 is not written
unfoldable pub simple_written : Endpoint → Outcome (List ℕ)
simple_written e = cond (leb (cluster_count e) 28) (answer (laid (simple_descriptor_of e))) (refusal 4)

-- ---- reading

-- endpoint, profile, device, version
unfoldable pub simple_widths : List ℕ
simple_widths = 1 ∷ 2 ∷ 2 ∷ 1 ∷ []

-- a descriptor's first fields, the version modulo 16, then its lists
unfoldable pub simple_of : (ℕ → ℕ) → ClusterLists → SimpleDescriptorFields
simple_of field lists =
    record {
      endpoint = field 0;
      profile_id = field 1;
      device_id = field 2;
      device_version = field 3 % 16;
      input_clusters = lists.input_clusters;
      output_clusters = lists.output_clusters;
    }

-- the descriptor at the front of bytes: inputs counted at byte 6, outputs behind them, two bytes for each cluster;
-- refusal 3 where the bytes end before the outputs do
unfoldable pub simple_descriptor_in : List ℕ → Outcome SimpleDescriptorFields
simple_descriptor_in bytes = mapped (simple_of (field_of simple_widths bytes)) (lists_in bytes 6)

-- what a descriptor that was read from bytes says, its lists taken from them
unfoldable pub simple_fields : List ℕ → SimpleDescriptorFields → Endpoint
simple_fields bytes d =
    record {
      endpoint = d.endpoint;
      profile_id = d.profile_id;
      device_id = d.device_id;
      device_version = d.device_version;
      input_clusters = entries_at 2 bytes d.input_clusters;
      output_clusters = entries_at 2 bytes d.output_clusters;
    }
