-- Device tables: endpoint records, and the two pools of clusters that they point into (document 01, "Device tables and
-- sizes").
use Rattle.std.specs.Prelude.{ℕ, ◌+◌, Bool, true, false, ◌&&◌, cond, List, [], map, eqb, leb, length, take, Option}
use Rattle.zigbee_types.specs.Lists.{part, all, find, option}
use Rattle.simple_descriptor.specs.SimpleDescriptor.{Endpoint, endpoint_with}
use Rattle.zdo_device.specs.declared.descriptor.EndpointDescriptor.{EndpointDescriptor}
use Rattle.zdo_device.specs.declared.descriptor.DeviceDescriptorConfig.{DeviceDescriptorConfig}
use Rattle.zdo_device.specs.declared.descriptor.Side.{Side}
use Rattle.zdo_device.specs.declared.descriptor.Side.TheVariants.{Input, Output}

-- the two lent pools of clusters
pub record Pools : Type 0 where
  pub inputs : List ℕ
  pub outputs : List ℕ

-- the pools that have these
abbrev pub pools : List ℕ → List ℕ → Pools
pools inputs outputs = record { inputs = inputs; outputs = outputs }

-- ---- records

-- the records in use; those behind the count are free. A count above 32 reaches all 32.
unfoldable pub used : DeviceDescriptorConfig → List EndpointDescriptor
used d = take d.endpoint_count d.endpoints

-- `endpoint`: the first record in use that has a number, or none; it refuses nothing
unfoldable pub endpoint_record : DeviceDescriptorConfig → ℕ → Option EndpointDescriptor
endpoint_record d n = find (λ e. eqb e.endpoint n) (used d)

-- `supports_endpoint`: is there one?
unfoldable pub supports_endpoint : DeviceDescriptorConfig → ℕ → Bool
supports_endpoint d n = option false (λ e. true) (endpoint_record d n)

-- ---- when tables are good. Matching and the simple reply give refusal 1 for others; the active reply is lent no pools, and gives
-- it for a count above 32, or a lent run of more.

-- a record's two parts end within their pools; a part without clusters may not start past the end either
unfoldable pub record_fits : Pools → EndpointDescriptor → Bool
record_fits p e = leb (e.input_start + e.input_count) (length p.inputs) && leb (e.output_start + e.output_count) (length p.outputs)

-- at most 32 records, and at most 512 clusters in each pool
unfoldable pub good_sizes : ℕ → ℕ → ℕ → Bool
good_sizes records inputs outputs = leb records 32 && leb inputs 512 && leb outputs 512

-- of a run of records: these sizes, and each record within its pools. (A device holds at most 32; a lent run may have more.)
unfoldable pub good_records : Pools → List EndpointDescriptor → Bool
good_records p records = good_sizes (length records) (length p.inputs) (length p.outputs) && all (record_fits p) records

-- the same of a device: its count is at most 32, and the records in use are good
unfoldable pub good_device : Pools → DeviceDescriptorConfig → Bool
good_device p d = leb d.endpoint_count 32 && good_records p (used d)

-- ---- records resolved to their clusters

-- a record, with its parts of the pools
unfoldable pub endpoint_of : Pools → EndpointDescriptor → Endpoint
endpoint_of p e =
    endpoint_with e.endpoint e.profile_id e.device_id e.device_version
    (part e.input_start e.input_count p.inputs)
    (part e.output_start e.output_count p.outputs)

-- records, each with its parts of the pools
unfoldable pub resolved_in : Pools → List EndpointDescriptor → List Endpoint
resolved_in p records = map (endpoint_of p) records

-- an endpoint's clusters of one side
unfoldable pub clusters_of : Side → Endpoint → List ℕ
clusters_of Input e = e.input_clusters
clusters_of Output e = e.output_clusters

-- the part of a pool that an endpoint number has: that of its first record; empty where there is no record, or the tables are not
-- good
unfoldable pub endpoint_clusters : Pools → DeviceDescriptorConfig → Side → ℕ → List ℕ
endpoint_clusters p d s n = cond (good_device p d) (option [] (λ e. clusters_of s (endpoint_of p e)) (endpoint_record d n)) []
