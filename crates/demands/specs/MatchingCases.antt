-- Cases of matching: profiles, both lists, long lists, places in the payload, the buffer. What the definitions say stands on one
-- side, and literals on the other (`Case`).
use Rattle.std.specs.Prelude.{ℕ, List, [], ◌∷◌, ◌++◌, map, Ok, Err}
use Rattle.zigbee_types.specs.Outcome.{Outcome, answer, refusal, mapped, begun_length, begun}
use Rattle.zigbee_types.specs.declared.Refusal.TheVariants.{BadTables, Malformed}
use Rattle.zdo_device.specs.declared.descriptor.EndpointDescriptor.{EndpointDescriptor}
use Rattle.zdo_device.specs.declared.descriptor.DeviceDescriptorConfig.{DeviceDescriptorConfig}
use Rattle.zdo_matching.specs.Matching.{matching_endpoints}
use Rattle.zdo_matching.specs.Answers.{matching_says}
use Rattle.our_device.specs.OurDevice.{our_pools, our_device}
use Rattle.demands.specs.Devices.{endpoint_at, device_of}
use Rattle.demands.specs.Cases.{Case, found}
use Rattle.demands.specs.DeviceCases.{requesting, standing, numbered_pools, numbered, of_count}

-- what an answer of matching says: how many were written, or the refusal's number
unfoldable pub MatchingAnswers : Case
MatchingAnswers =
    record {
      says =
          map (λ m. mapped (λ n. n ∷ []) (matching_says m))
          (Ok (record { written = 0 }) ∷ Ok (record { written = 2 }) ∷ Err BadTables ∷ Err Malformed ∷ []);
      expected = answer (0 ∷ []) ∷ answer (2 ∷ []) ∷ refusal 1 ∷ refusal 3 ∷ [];
    }

-- a record of a number and a profile, of one input
abbrev pub profiled : ℕ → ℕ → EndpointDescriptor
profiled n profile =
    record { endpoint = n; device_version = 0; profile_id = profile; device_id = 0x0302; input_start = 0; input_count = 1; output_start = 0; output_count = 0 }

-- five of them
abbrev pub profiles : DeviceDescriptorConfig
profiles = device_of (profiled 1 0xFFFF ∷ profiled 2 0xFFFE ∷ profiled 3 0x0104 ∷ profiled 4 0x0000 ∷ profiled 5 0x0105 ∷ []) 5

-- A request for their input, by its profile: 0xFFFF finds all, and any other its own alone, even where a record's own is 0xFFFF. With
-- an input that none has, 0xFFFF finds none.
unfoldable pub Profiles : Case
Profiles =
    record {
      says =
          map (λ profile. matching_endpoints numbered_pools profiles (requesting profile 0 1 2 0) (0x06 ∷ 0x00 ∷ []))
          (0xFFFF ∷ 0xFFFE ∷ 0xFFF0 ∷ 0x0104 ∷ 0x0103 ∷ 0x0000 ∷ [])
          ++ matching_endpoints numbered_pools profiles (requesting 0xFFFF 0 1 2 0) (0x07 ∷ 0x00 ∷ [])
          ∷ [];
      expected =
          answer (1 ∷ 2 ∷ 3 ∷ 4 ∷ 5 ∷ [])
          ∷ answer (2 ∷ [])
          ∷ answer []
          ∷ answer (3 ∷ [])
          ∷ answer []
          ∷ answer (4 ∷ [])
          ∷ answer []
          ∷ [];
    }

-- one endpoint, of all our inputs and no output
abbrev pub four_inputs : DeviceDescriptorConfig
four_inputs = device_of (endpoint_at 6 0 4 1 0 ∷ []) 1

-- An input of endpoint 2 and the output of endpoint 1; an input and the output of endpoint 1; an output asked for that is an input;
-- the output with profile 0xFFFF; cluster 0xFFFF, as an input and as an output. The fourth input of four, asked for as the fourth of
-- four; four that it has not, with the low byte of one that it has, the high byte, and both exchanged among them.
unfoldable pub BothLists : Case
BothLists =
    record {
      says =
          found (0x09 ∷ 0x34 ∷ 0x12 ∷ 0x04 ∷ 0x01 ∷ 0x01 ∷ 0x00 ∷ 0x05 ∷ 0x01 ∷ 0x19 ∷ 0x00 ∷ [])
          ∷ found (0x09 ∷ 0x34 ∷ 0x12 ∷ 0x04 ∷ 0x01 ∷ 0x01 ∷ 0x02 ∷ 0x04 ∷ 0x01 ∷ 0x19 ∷ 0x00 ∷ [])
          ∷ found (0x09 ∷ 0x34 ∷ 0x12 ∷ 0x04 ∷ 0x01 ∷ 0x00 ∷ 0x01 ∷ 0x02 ∷ 0x04 ∷ [])
          ∷ found (0x09 ∷ 0x34 ∷ 0x12 ∷ 0xFF ∷ 0xFF ∷ 0x00 ∷ 0x01 ∷ 0x19 ∷ 0x00 ∷ [])
          ∷ found (0x09 ∷ 0x34 ∷ 0x12 ∷ 0x04 ∷ 0x01 ∷ 0x01 ∷ 0xFF ∷ 0xFF ∷ 0x01 ∷ 0xFF ∷ 0xFF ∷ [])
          ∷ matching_endpoints our_pools four_inputs (requesting 0x0104 0 4 8 0) (0x01 ∷ 0x00 ∷ 0x02 ∷ 0x00 ∷ 0x03 ∷ 0x00 ∷ 0x00 ∷ 0x05 ∷ [])
          ∷ matching_endpoints our_pools four_inputs (requesting 0x0104 0 4 8 0) (0x01 ∷ 0x00 ∷ 0x02 ∷ 0x00 ∷ 0x03 ∷ 0x04 ∷ 0x04 ∷ 0x02 ∷ [])
          ∷ [];
      expected = answer (1 ∷ 2 ∷ []) ∷ answer (1 ∷ []) ∷ answer [] ∷ answer (1 ∷ []) ∷ answer [] ∷ answer (6 ∷ []) ∷ answer [] ∷ [];
    }

-- An output at the end of the payload, and one byte past it; two outputs, of which the second lacks a byte; no inputs, said to stand
-- past the payload; both lists at one place; the outputs before the inputs. A count of 33 before places that are bad.
-- No lists and no payload, with tables that are good, and with a pool that is too short.
unfoldable pub PlaceChecks : Case
PlaceChecks =
    record {
      says =
          matching_endpoints numbered_pools numbered (requesting 0x0104 0 0 0 1) (0x06 ∷ 0x20 ∷ [])
          ∷ matching_endpoints numbered_pools numbered (requesting 0x0104 0 0 1 1) (0x06 ∷ 0x20 ∷ [])
          ∷ matching_endpoints numbered_pools numbered (requesting 0x0104 0 0 0 2) (0x06 ∷ 0x20 ∷ 0x06 ∷ [])
          ∷ matching_endpoints numbered_pools numbered (requesting 0x0104 3 0 0 1) (0x06 ∷ 0x20 ∷ [])
          ∷ matching_endpoints numbered_pools numbered (requesting 0x0104 0 1 0 1) (0x06 ∷ 0x20 ∷ [])
          ∷ matching_endpoints numbered_pools numbered (requesting 0x0104 4 1 2 1) (0x06 ∷ 0x00 ∷ 0x06 ∷ 0x20 ∷ 0x06 ∷ 0x00 ∷ [])
          ∷ matching_endpoints our_pools (of_count 33) (standing 1 2) (0x02 ∷ 0x04 ∷ [])
          ∷ matching_endpoints our_pools our_device (requesting 0x0104 0 0 0 0) []
          ∷ matching_endpoints (record { inputs = our_pools.inputs; outputs = [] }) our_device (requesting 0x0104 0 0 0 0) []
          ∷ [];
      expected =
          answer (241 ∷ [])
          ∷ refusal 3
          ∷ refusal 3
          ∷ refusal 3
          ∷ answer (241 ∷ [])
          ∷ answer (0 ∷ 241 ∷ [])
          ∷ refusal 1
          ∷ answer []
          ∷ refusal 1
          ∷ [];
    }

-- two endpoints that match
abbrev pub both : Outcome (List ℕ)
both = matching_endpoints our_pools our_device (standing 0 2) (0x00 ∷ 0x00 ∷ [])

-- they are written into three bytes, into two and into none: how many, and the buffer then
unfoldable pub Buffers : Case
Buffers =
    record {
      says =
          mapped (λ n. n ∷ []) (begun_length (0xEE ∷ 0xEE ∷ 0xEE ∷ []) both)
          ∷ answer (begun (0xEE ∷ 0xEE ∷ 0xEE ∷ []) both)
          ∷ mapped (λ n. n ∷ []) (begun_length (0xEE ∷ 0xEE ∷ []) both)
          ∷ answer (begun (0xEE ∷ 0xEE ∷ []) both)
          ∷ mapped (λ n. n ∷ []) (begun_length [] both)
          ∷ answer (begun [] both)
          ∷ [];
      expected =
          answer (2 ∷ [])
          ∷ answer (1 ∷ 2 ∷ 0xEE ∷ [])
          ∷ answer (2 ∷ [])
          ∷ answer (1 ∷ 2 ∷ [])
          ∷ answer (0 ∷ [])
          ∷ answer []
          ∷ [];
    }
