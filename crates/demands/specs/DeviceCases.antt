-- Cases of device tables: matching, numbers that repeat, parts of pools, tables that are refused. What the definitions say stands on
-- one side, and literals on the other (`Case`).
use Rattle.std.specs.Prelude.{ℕ, List, [], ◌∷◌, ◌++◌, map, length, take, drop, replicate, Option, Some, None}
use Rattle.zigbee_types.specs.Lists.{option}
use Rattle.zigbee_types.specs.Bytes.{bit}
use Rattle.zigbee_types.specs.Outcome.{Outcome, answer, refusal, mapped, begun_length, begun}
use Rattle.zigbee_types.specs.Addresses.{short_of}
use Rattle.zdo_requests.specs.declared.descriptor.MatchDescReq.{MatchDescReq}
use Rattle.zdo_replies.specs.Replies.{list_rsp}
use Rattle.zdo_device.specs.Tables.{Pools, pools, endpoint_record, supports_endpoint, endpoint_clusters}
use Rattle.zdo_matching.specs.Matching.{matched_records, matching_endpoints}
use Rattle.zdo_device_rsp.specs.TableReplies.{active_records, active_ep_rsp, simple_desc_rsp}
use Rattle.zdo_device.specs.declared.descriptor.EndpointDescriptor.{EndpointDescriptor}
use Rattle.zdo_device.specs.declared.descriptor.DeviceDescriptorConfig.{DeviceDescriptorConfig}
use Rattle.zdo_device.specs.declared.descriptor.Side.TheVariants.{Input, Output}
use Rattle.our_device.specs.OurDevice.{endpoint1, endpoint2, our_pools, our_device}
use Rattle.demands.specs.Devices.{endpoint_at, device_of}
use Rattle.demands.specs.Cases.{Case, found}

-- a list that is shorter than the buffer: how many are written, and the buffer then; the buffer after a refusal. Another
-- profile; 0xFFFF with an input that both endpoints have; an output; an output asked for as an input; the second of two inputs
unfoldable pub Matching : Case
Matching =
    record {
      says =
          mapped (λ n. n ∷ []) (begun_length (0xEE ∷ 0xEE ∷ 0xEE ∷ []) (found (0x09 ∷ 0x34 ∷ 0x12 ∷ 0x04 ∷ 0x01 ∷ 0x01 ∷ 0x02 ∷ 0x04 ∷ 0x00 ∷ [])))
          ∷ answer (begun (0xEE ∷ 0xEE ∷ 0xEE ∷ []) (found (0x09 ∷ 0x34 ∷ 0x12 ∷ 0x04 ∷ 0x01 ∷ 0x01 ∷ 0x02 ∷ 0x04 ∷ 0x00 ∷ [])))
          ∷ answer (begun (0xEE ∷ 0xEE ∷ []) (found []))
          ∷ found (0x09 ∷ 0x34 ∷ 0x12 ∷ 0x05 ∷ 0x01 ∷ 0x01 ∷ 0x00 ∷ 0x00 ∷ 0x00 ∷ [])
          ∷ found (0x09 ∷ 0x34 ∷ 0x12 ∷ 0xFF ∷ 0xFF ∷ 0x01 ∷ 0x00 ∷ 0x00 ∷ 0x00 ∷ [])
          ∷ found (0x09 ∷ 0x34 ∷ 0x12 ∷ 0x04 ∷ 0x01 ∷ 0x00 ∷ 0x01 ∷ 0x19 ∷ 0x00 ∷ [])
          ∷ found (0x09 ∷ 0x34 ∷ 0x12 ∷ 0x04 ∷ 0x01 ∷ 0x01 ∷ 0x19 ∷ 0x00 ∷ 0x00 ∷ [])
          ∷ found (0x09 ∷ 0x34 ∷ 0x12 ∷ 0x04 ∷ 0x01 ∷ 0x02 ∷ 0x19 ∷ 0x00 ∷ 0x00 ∷ 0x05 ∷ 0x00 ∷ [])
          ∷ [];
      expected =
          answer (1 ∷ [])
          ∷ answer (1 ∷ 0xEE ∷ 0xEE ∷ [])
          ∷ answer (0xEE ∷ 0xEE ∷ [])
          ∷ answer []
          ∷ answer (1 ∷ 2 ∷ [])
          ∷ answer (1 ∷ [])
          ∷ answer []
          ∷ answer (2 ∷ [])
          ∷ [];
    }

-- a match request of a profile: start and count of its inputs, start and count of its outputs
abbrev pub requesting : ℕ → ℕ → ℕ → ℕ → ℕ → MatchDescReq
requesting profile from inputs out outputs =
    record {
      seq = 9;
      nwk_addr_of_interest = short_of 0x1234;
      profile_id = profile;
      input_clusters = record { start = from; count = inputs };
      output_clusters = record { start = out; count = outputs };
    }

-- one of our profile, of one input and no outputs, which are said to stand at places
abbrev pub standing : ℕ → ℕ → MatchDescReq
standing inputs outputs = requesting 0x0104 inputs 1 outputs 0

-- endpoint 2, another record of that number, and endpoint 1 behind the count
abbrev pub twice : DeviceDescriptorConfig
twice = device_of (endpoint2 ∷ endpoint_at 2 0 2 0 1 ∷ endpoint1 ∷ []) 2

-- the first record answers for a number, in a simple reply and for its part of a pool; both stand in the active list, and
-- both match; a record behind the count answers for nothing
unfoldable pub Repeated : Case
Repeated =
    record {
      says =
          simple_desc_rsp 7 (short_of 0x1234) our_pools twice 2
          ∷ answer (endpoint_clusters our_pools twice Input 2)
          ∷ active_ep_rsp 7 (short_of 0x1234) twice
          ∷ matching_endpoints our_pools twice (standing 0 2) (0x00 ∷ 0x00 ∷ [])
          ∷ simple_desc_rsp 7 (short_of 0x1234) our_pools twice 1
          ∷ [];
      expected =
          answer (0x07 ∷ 0x00 ∷ 0x34 ∷ 0x12 ∷ 0x0C ∷ 0x02 ∷ 0x04 ∷ 0x01 ∷ 0x02 ∷ 0x04 ∷ 0x00 ∷ 0x02 ∷ 0x00 ∷ 0x00 ∷ 0x00 ∷ 0x05 ∷ 0x00 ∷ [])
          ∷ answer (0x0000 ∷ 0x0500 ∷ [])
          ∷ answer (0x07 ∷ 0x00 ∷ 0x34 ∷ 0x12 ∷ 0x02 ∷ 0x02 ∷ 0x02 ∷ [])
          ∷ answer (2 ∷ 2 ∷ [])
          ∷ answer (0x07 ∷ 0x83 ∷ 0x34 ∷ 0x12 ∷ 0x00 ∷ [])
          ∷ [];
    }

-- ---- records

-- a record's number, version, profile and device, then start and count of its inputs, start and count of its outputs; nothing of none
abbrev pub record_shown : Option EndpointDescriptor → Outcome (List ℕ)
record_shown r =
    answer
    (option []
    (λ e.
    e.endpoint
    ∷ e.device_version
    ∷ e.profile_id
    ∷ e.device_id
    ∷ e.input_start
    ∷ e.input_count
    ∷ e.output_start
    ∷ e.output_count
    ∷ [])
    r)

-- endpoint 1 in 31 places; in the last, endpoint 9, whose inputs begin at the end of their pool and are so many; of these a number
-- is in use
abbrev pub crowd : ℕ → ℕ → DeviceDescriptorConfig
crowd inputs n = device_of (replicate 31 endpoint1 ++ endpoint_at 9 4 inputs 1 0 ∷ []) n

-- a record and none; the last of 32 records, with a count of 32, of 33, of the largest number, and of 31; another number with a
-- count of 33, and one that no record has; the first of two records; one behind the count
unfoldable pub Records : Case
Records =
    record {
      says =
          map record_shown (Some endpoint1 ∷ None ∷ [])
          ++ record_shown (endpoint_record (crowd 0 32) 9)
          ∷ record_shown (endpoint_record (crowd 0 33) 9)
          ∷ record_shown (endpoint_record (crowd 0 0xFFFF_FFFF_FFFF_FFFF) 9)
          ∷ record_shown (endpoint_record (crowd 0 31) 9)
          ∷ record_shown (endpoint_record (crowd 0 33) 1)
          ∷ record_shown (endpoint_record (crowd 0 33) 2)
          ∷ record_shown (endpoint_record twice 2)
          ∷ record_shown (endpoint_record twice 1)
          ∷ [];
      expected =
          answer (1 ∷ 0x11 ∷ 0x0104 ∷ 0x0302 ∷ 0 ∷ 2 ∷ 0 ∷ 1 ∷ [])
          ∷ answer []
          ∷ answer (9 ∷ 0 ∷ 0x0104 ∷ 0x0302 ∷ 4 ∷ 0 ∷ 1 ∷ 0 ∷ [])
          ∷ answer (9 ∷ 0 ∷ 0x0104 ∷ 0x0302 ∷ 4 ∷ 0 ∷ 1 ∷ 0 ∷ [])
          ∷ answer (9 ∷ 0 ∷ 0x0104 ∷ 0x0302 ∷ 4 ∷ 0 ∷ 1 ∷ 0 ∷ [])
          ∷ answer []
          ∷ answer (1 ∷ 0x11 ∷ 0x0104 ∷ 0x0302 ∷ 0 ∷ 2 ∷ 0 ∷ 1 ∷ [])
          ∷ answer []
          ∷ answer (2 ∷ 0 ∷ 0x0104 ∷ 0x0402 ∷ 2 ∷ 2 ∷ 1 ∷ 0 ∷ [])
          ∷ answer []
          ∷ [];
    }

-- endpoints 0, 255 and 241, of one input, of no clusters and of two outputs
abbrev pub numbered : DeviceDescriptorConfig
numbered = device_of (endpoint_at 0 0 1 0 0 ∷ endpoint_at 255 1 0 2 0 ∷ endpoint_at 241 1 0 0 2 ∷ []) 3

-- their clusters
abbrev pub numbered_pools : Pools
numbered_pools = pools (0x0006 ∷ []) (0x0019 ∷ 0x2006 ∷ [])

-- is there an endpoint: 9, 1 and 2 with a count of 33, 9 with one of 31; 2 and 1 of a number twice; 0, 255, 241 and 1 of those
-- numbers
unfoldable pub Supported : Case
Supported =
    record {
      says =
          answer
          (map (λ n. bit (supports_endpoint (crowd 0 33) n)) (9 ∷ 1 ∷ 2 ∷ [])
          ++ bit (supports_endpoint (crowd 0 31) 9)
          ∷ map (λ n. bit (supports_endpoint twice n)) (2 ∷ 1 ∷ [])
          ++ map (λ n. bit (supports_endpoint numbered n)) (0 ∷ 255 ∷ 241 ∷ 1 ∷ []))
          ∷ [];
      expected = answer (1 ∷ 1 ∷ 0 ∷ 0 ∷ 1 ∷ 0 ∷ 1 ∷ 1 ∷ 1 ∷ 0 ∷ []) ∷ [];
    }

-- numbers may be any byte: the active list, the simple reply of each and of one that is not there, and both of them that match
unfoldable pub Numbers : Case
Numbers =
    record {
      says =
          active_ep_rsp 0x91 (short_of 0xA2A1) numbered
          ∷ map (simple_desc_rsp 0x91 (short_of 0xA2A1) numbered_pools numbered) (0 ∷ 255 ∷ 241 ∷ 1 ∷ [])
          ++ matching_endpoints numbered_pools numbered (requesting 0x0104 0 1 2 1) (0x06 ∷ 0x00 ∷ 0x06 ∷ 0x20 ∷ [])
          ∷ [];
      expected =
          answer (0x91 ∷ 0x00 ∷ 0xA1 ∷ 0xA2 ∷ 0x03 ∷ 0x00 ∷ 0xFF ∷ 0xF1 ∷ [])
          ∷ answer (0x91 ∷ 0x00 ∷ 0xA1 ∷ 0xA2 ∷ 0x0A ∷ 0x00 ∷ 0x04 ∷ 0x01 ∷ 0x02 ∷ 0x03 ∷ 0x00 ∷ 0x01 ∷ 0x06 ∷ 0x00 ∷ 0x00 ∷ [])
          ∷ answer (0x91 ∷ 0x00 ∷ 0xA1 ∷ 0xA2 ∷ 0x08 ∷ 0xFF ∷ 0x04 ∷ 0x01 ∷ 0x02 ∷ 0x03 ∷ 0x00 ∷ 0x00 ∷ 0x00 ∷ [])
          ∷ answer (0x91 ∷ 0x00 ∷ 0xA1 ∷ 0xA2 ∷ 0x0C ∷ 0xF1 ∷ 0x04 ∷ 0x01 ∷ 0x02 ∷ 0x03 ∷ 0x00 ∷ 0x00 ∷ 0x02 ∷ 0x19 ∷ 0x00 ∷ 0x06 ∷ 0x20 ∷ [])
          ∷ answer (0x91 ∷ 0x83 ∷ 0xA1 ∷ 0xA2 ∷ 0x00 ∷ [])
          ∷ answer (0 ∷ 241 ∷ [])
          ∷ [];
    }

-- a device with no record in use: active, simple, matching and an endpoint's part; simple with a pool of 513
unfoldable pub NoRecords : Case
NoRecords =
    let none = device_of [] 0 in
    record {
      says =
          active_ep_rsp 7 (short_of 0x1234) none
          ∷ simple_desc_rsp 7 (short_of 0x1234) our_pools none 2
          ∷ matching_endpoints our_pools none (standing 0 2) (0x00 ∷ 0x00 ∷ [])
          ∷ answer (endpoint_clusters our_pools none Input 2)
          ∷ simple_desc_rsp 7 (short_of 0x1234) (record { inputs = replicate 513 0x0006; outputs = [] }) none 2
          ∷ [];
      expected =
          answer (0x07 ∷ 0x00 ∷ 0x34 ∷ 0x12 ∷ 0x00 ∷ [])
          ∷ answer (0x07 ∷ 0x83 ∷ 0x34 ∷ 0x12 ∷ 0x00 ∷ [])
          ∷ answer []
          ∷ answer []
          ∷ refusal 1
          ∷ [];
    }

-- a list of 256 endpoints: its count, and its length in all
unfoldable pub LongList : Case
LongList =
    let o = list_rsp 7 (short_of 0x1234) (replicate 256 0x01) in
    record {
      says = mapped (λ bytes. take 6 bytes) o ∷ mapped (λ bytes. length bytes ∷ []) o ∷ [];
      expected = answer (0x07 ∷ 0x00 ∷ 0x34 ∷ 0x12 ∷ 0xFF ∷ 0x01 ∷ []) ∷ answer (261 ∷ []) ∷ [];
    }

-- one endpoint, whose input is the fourth of its pool and whose output the second
abbrev pub apart : DeviceDescriptorConfig
apart = device_of (endpoint_at 4 3 1 1 1 ∷ []) 1

-- an endpoint's part by side, of an endpoint that we do not have, and where a pool is too short; parts that start apart
unfoldable pub Parts : Case
Parts =
    record {
      says =
          answer (endpoint_clusters our_pools our_device Input 2)
          ∷ answer (endpoint_clusters our_pools our_device Output 1)
          ∷ answer (endpoint_clusters our_pools our_device Input 3)
          ∷ answer (endpoint_clusters (record { inputs = our_pools.inputs; outputs = [] }) our_device Input 2)
          ∷ answer (endpoint_clusters (record { inputs = our_pools.inputs; outputs = 0x0019 ∷ 0x0020 ∷ [] }) apart Input 4)
          ∷ answer (endpoint_clusters (record { inputs = our_pools.inputs; outputs = 0x0019 ∷ 0x0020 ∷ [] }) apart Output 4)
          ∷ [];
      expected = answer (0x0000 ∷ 0x0500 ∷ []) ∷ answer (0x0019 ∷ []) ∷ answer [] ∷ answer [] ∷ answer (0x0500 ∷ []) ∷ answer (0x0020 ∷ []) ∷ [];
    }

-- our records, with a count
abbrev pub of_count : ℕ → DeviceDescriptorConfig
of_count n = device_of (endpoint1 ∷ endpoint2 ∷ []) n

-- one record, which starts so far into its pools and has no clusters
abbrev pub starting_at : ℕ → ℕ → DeviceDescriptorConfig
starting_at inputs outputs = device_of (endpoint_at 1 inputs 0 outputs 0 ∷ []) 1

-- a count of 33, of active, simple, matching and an endpoint's part, and one of 3; a run of 33 records in the active list; pools
-- of 513 clusters, of inputs and of outputs, and of 512; a record that starts at the end of its pool, and past it, of inputs and
-- of outputs; an input past its pool; matching over a run of 32 records, and of 33; a pool that is too short before places that
-- are; places that end with the payload, and one past it, of inputs and of outputs; a record that starts past an empty pool
unfoldable pub TableChecks : Case
TableChecks =
    record {
      says =
          active_ep_rsp 7 (short_of 0x1234) (of_count 33)
          ∷ active_ep_rsp 7 (short_of 0x1234) (of_count 3)
          ∷ mapped (λ bytes. length bytes ∷ []) (active_records 7 (short_of 0x1234) (replicate 32 endpoint1))
          ∷ active_records 7 (short_of 0x1234) (replicate 33 endpoint1)
          ∷ answer (endpoint_clusters our_pools (of_count 33) Input 1)
          ∷ mapped (λ bytes. length bytes ∷ []) (simple_desc_rsp 7 (short_of 0x1234) our_pools (starting_at 4 1) 1)
          ∷ simple_desc_rsp 7 (short_of 0x1234) our_pools (starting_at 5 1) 1
          ∷ simple_desc_rsp 7 (short_of 0x1234) our_pools (starting_at 4 2) 1
          ∷ simple_desc_rsp 7 (short_of 0x1234) (record { inputs = 0x0000 ∷ []; outputs = our_pools.outputs }) our_device 3
          ∷ simple_desc_rsp 7 (short_of 0x1234) our_pools (of_count 33) 1
          ∷ simple_desc_rsp 7 (short_of 0x1234) (record { inputs = replicate 513 0x0006; outputs = our_pools.outputs }) our_device 3
          ∷ simple_desc_rsp 7 (short_of 0x1234) (record { inputs = our_pools.inputs; outputs = replicate 513 0x0019 }) our_device 3
          ∷ simple_desc_rsp 7 (short_of 0x1234) (record { inputs = replicate 512 0x0006; outputs = replicate 512 0x0019 }) our_device 3
          ∷ mapped (λ xs. length xs ∷ []) (matched_records our_pools (replicate 32 endpoint1) (standing 0 2) (0x02 ∷ 0x04 ∷ []))
          ∷ mapped (λ xs. length xs ∷ []) (matched_records our_pools (replicate 33 endpoint1) (standing 0 2) (0x02 ∷ 0x04 ∷ []))
          ∷ matching_endpoints our_pools (of_count 33) (standing 0 2) (0x02 ∷ 0x04 ∷ [])
          ∷ matching_endpoints (record { inputs = our_pools.inputs; outputs = [] }) our_device (standing 1 2) (0x02 ∷ 0x04 ∷ [])
          ∷ matching_endpoints our_pools our_device (standing 0 2) (0x02 ∷ 0x04 ∷ [])
          ∷ matching_endpoints our_pools our_device (standing 1 2) (0x02 ∷ 0x04 ∷ [])
          ∷ matching_endpoints our_pools our_device (standing 0 3) (0x02 ∷ 0x04 ∷ [])
          ∷ simple_desc_rsp 7 (short_of 0x1234) (pools [] []) (starting_at 1 0) 1
          ∷ [];
      expected =
          refusal 1
          ∷ answer (0x07 ∷ 0x00 ∷ 0x34 ∷ 0x12 ∷ 0x03 ∷ 0x01 ∷ 0x02 ∷ 0x02 ∷ [])
          ∷ answer (37 ∷ [])
          ∷ refusal 1
          ∷ answer []
          ∷ answer (13 ∷ [])
          ∷ refusal 1
          ∷ refusal 1
          ∷ refusal 1
          ∷ refusal 1
          ∷ refusal 1
          ∷ refusal 1
          ∷ answer (0x07 ∷ 0x83 ∷ 0x34 ∷ 0x12 ∷ 0x00 ∷ [])
          ∷ answer (32 ∷ [])
          ∷ refusal 1
          ∷ refusal 1
          ∷ refusal 1
          ∷ answer (1 ∷ [])
          ∷ refusal 3
          ∷ refusal 3
          ∷ refusal 1
          ∷ [];
    }

-- the simple reply of endpoint 1, where the one record has these: how long it is
abbrev pub length_of : ℕ → ℕ → ℕ → ℕ → Outcome (List ℕ)
length_of from inputs out outputs =
    mapped (λ bytes. length bytes ∷ []) (simple_desc_rsp 7 (short_of 0x1234) our_pools (device_of (endpoint_at 1 from inputs out outputs ∷ []) 1) 1)

-- endpoint 1, and endpoint 3, whose second input is past the pool
abbrev pub half_good : ℕ → DeviceDescriptorConfig
half_good n = device_of (endpoint1 ∷ endpoint_at 3 3 2 1 0 ∷ []) n

-- endpoint 1 with 29 inputs, and endpoint 2, whose input is past them
abbrev pub crowded : ℕ → DeviceDescriptorConfig
crowded n = device_of (endpoint_at 1 0 29 0 0 ∷ endpoint_at 2 29 1 0 0 ∷ []) n

-- 29 inputs
abbrev pub crowded_pools : Pools
crowded_pools = pools (replicate 29 0x0006) []

-- All inputs and the output, the last input; five inputs of four, two of the last; two outputs of one, one behind the last. A bad
-- record behind a good one: simple, matching and part of the good one, with both in use, and with one. The last of 32 records:
-- simple, with it good, with it bad, and with it bad and behind the count; active and matching of all 32, the end of the list and
-- how many.
unfoldable pub RecordChecks : Case
RecordChecks =
    record {
      says =
          length_of 0 4 0 1
          ∷ length_of 3 1 0 0
          ∷ length_of 0 5 0 0
          ∷ length_of 3 2 0 0
          ∷ length_of 0 0 0 2
          ∷ length_of 0 0 1 1
          ∷ simple_desc_rsp 7 (short_of 0x1234) our_pools (half_good 2) 1
          ∷ matching_endpoints our_pools (half_good 2) (standing 0 2) (0x02 ∷ 0x04 ∷ [])
          ∷ answer (endpoint_clusters our_pools (half_good 2) Input 1)
          ∷ mapped (λ bytes. length bytes ∷ []) (simple_desc_rsp 7 (short_of 0x1234) our_pools (half_good 1) 1)
          ∷ matching_endpoints our_pools (half_good 1) (standing 0 2) (0x02 ∷ 0x04 ∷ [])
          ∷ answer (endpoint_clusters our_pools (half_good 1) Input 1)
          ∷ simple_desc_rsp 7 (short_of 0x1234) our_pools (crowd 0 32) 9
          ∷ simple_desc_rsp 7 (short_of 0x1234) our_pools (crowd 1 32) 9
          ∷ simple_desc_rsp 7 (short_of 0x1234) our_pools (crowd 1 31) 9
          ∷ mapped (drop 35) (active_ep_rsp 7 (short_of 0x1234) (crowd 0 32))
          ∷ mapped (λ xs. length xs ∷ []) (matching_endpoints our_pools (crowd 0 32) (standing 0 2) (0x02 ∷ 0x04 ∷ []))
          ∷ [];
      expected =
          answer (23 ∷ [])
          ∷ answer (15 ∷ [])
          ∷ refusal 1
          ∷ refusal 1
          ∷ refusal 1
          ∷ refusal 1
          ∷ refusal 1
          ∷ refusal 1
          ∷ answer []
          ∷ answer (19 ∷ [])
          ∷ answer (1 ∷ [])
          ∷ answer (0x0000 ∷ 0x0402 ∷ [])
          ∷ answer (0x07 ∷ 0x00 ∷ 0x34 ∷ 0x12 ∷ 0x08 ∷ 0x09 ∷ 0x04 ∷ 0x01 ∷ 0x02 ∷ 0x03 ∷ 0x00 ∷ 0x00 ∷ 0x00 ∷ [])
          ∷ refusal 1
          ∷ answer (0x07 ∷ 0x83 ∷ 0x34 ∷ 0x12 ∷ 0x00 ∷ [])
          ∷ answer (0x01 ∷ 0x09 ∷ [])
          ∷ answer (31 ∷ [])
          ∷ [];
    }

-- 29 inputs: simple with a bad record too, and without it; simple of an endpoint that is not there; how many its part has; matching
unfoldable pub Crowded : Case
Crowded =
    record {
      says =
          simple_desc_rsp 7 (short_of 0x1234) crowded_pools (crowded 2) 1
          ∷ simple_desc_rsp 7 (short_of 0x1234) crowded_pools (crowded 1) 1
          ∷ simple_desc_rsp 7 (short_of 0x1234) crowded_pools (crowded 1) 2
          ∷ answer (length (endpoint_clusters crowded_pools (crowded 1) Input 1) ∷ [])
          ∷ matching_endpoints crowded_pools (crowded 1) (standing 0 2) (0x06 ∷ 0x00 ∷ [])
          ∷ [];
      expected = refusal 1 ∷ refusal 4 ∷ answer (0x07 ∷ 0x83 ∷ 0x34 ∷ 0x12 ∷ 0x00 ∷ []) ∷ answer (29 ∷ []) ∷ answer (1 ∷ []) ∷ [];
    }
