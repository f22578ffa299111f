-- Document 01's counter-cases K1 to K11. What the definitions say stands on one side, and document 01's bytes and numbers, as
-- literals, on the other.
use Rattle.std.specs.Prelude.{ℕ, List, [], ◌∷◌, ◌++◌, map, length, take, replicate, Option, Some, None}
use Rattle.zigbee_types.specs.Outcome.{Outcome, answer, refusal, and_then, mapped, fitted, begun_length, begun}
use Rattle.zigbee_types.specs.Layout.{laid}
use Rattle.node_descriptor.specs.NodeDescriptor.{default_node, node_descriptor_of}
use Rattle.node_power_descriptor.specs.PowerDescriptor.{power_descriptor_of, power_descriptor_in, power_fields}
use Rattle.aps_binding_table.specs.Table.{empty_table}
use Rattle.zdo_replies.specs.Replies.{node_desc_rsp}
use Rattle.zdo_readers.specs.Readers.{node_desc_rsp_in, stack_revision_of}
use Rattle.zdo_device_rsp.specs.TableReplies.{simple_desc_rsp}
use Rattle.zdo_discovery.specs.Host.{Asked}
use Rattle.zdo_dispatcher.specs.Answers.{answered}
use Rattle.our_device.specs.OurDevice.{our_node, our_power, our_pools, our_device, ours}
use Rattle.demands.specs.Devices.{endpoint_at, device_of}
use Rattle.demands.specs.Cases.{Case, asked, found, heard, status_of, power_shown, bind_a, bind_b, bind_c, run}

-- K1: a node reply with room, and in a buffer of 16 bytes
unfoldable pub K1 : Case
K1 =
    record {
      says = fitted 17 (node_desc_rsp 7 ours.nwk_addr our_node) ∷ fitted 16 (node_desc_rsp 7 ours.nwk_addr our_node) ∷ [];
      expected =
          answer (0x07 ∷ 0x00 ∷ 0x34 ∷ 0x12 ∷ 0x02 ∷ 0x40 ∷ 0x80 ∷ 0xCD ∷ 0xAB ∷ 0x52 ∷ 0x80 ∷ 0x00 ∷ 0x00 ∷ 0x2C ∷ 0x80 ∷ 0x00 ∷ 0x00 ∷ [])
          ∷ refusal 5
          ∷ [];
    }

-- a stack revision, where there is one
abbrev pub revisions : Option ℕ → List ℕ
revisions (Some r) = r ∷ []
revisions None = []

-- K2: its stack revision
unfoldable pub K2 : Case
K2 =
    record {
      says =
          and_then (node_desc_rsp 7 ours.nwk_addr our_node) (λ bytes. mapped (λ r. revisions (stack_revision_of r.server_mask)) (node_desc_rsp_in bytes))
          ∷ [];
      expected = answer (22 ∷ []) ∷ [];
    }

-- K3: byte 0 of the default
unfoldable pub K3 : Case
K3 = record { says = answer (take 1 (laid (node_descriptor_of default_node))) ∷ []; expected = answer (0x01 ∷ []) ∷ [] }

-- K4: power bytes that are read, as mode, sources, source and level; and two that are refused. Our device writes the first.
unfoldable pub K4 : Case
K4 =
    record {
      says =
          mapped (λ d. power_shown (power_fields d)) (power_descriptor_in (0x42 ∷ 0x84 ∷ []))
          ∷ mapped (λ d. power_shown (power_fields d)) (power_descriptor_in (0x22 ∷ 0x84 ∷ []))
          ∷ mapped (λ d. power_shown (power_fields d)) (power_descriptor_in (0x32 ∷ 0x83 ∷ []))
          ∷ answer (laid (power_descriptor_of our_power))
          ∷ [];
      expected = answer (2 ∷ 4 ∷ 4 ∷ 8 ∷ []) ∷ refusal 3 ∷ refusal 3 ∷ answer (0x42 ∷ 0x84 ∷ []) ∷ [];
    }

-- K5: the simple reply of endpoint 1
unfoldable pub K5 : Case
K5 =
    record {
      says = simple_desc_rsp 7 ours.nwk_addr our_pools our_device 1 ∷ [];
      expected =
          answer (0x07 ∷ 0x00 ∷ 0x34 ∷ 0x12 ∷ 0x0E ∷ 0x01 ∷ 0x04 ∷ 0x01 ∷ 0x02 ∷ 0x03 ∷ 0x01 ∷ 0x02 ∷ 0x00 ∷ 0x00 ∷ 0x02 ∷ 0x04 ∷ 0x01 ∷ 0x19 ∷ 0x00 ∷ [])
          ∷ [];
    }

-- the length of the simple reply of one endpoint, of so many inputs and outputs
abbrev pub crowded_length : ℕ → ℕ → Outcome (List ℕ)
crowded_length inputs outputs =
    mapped (λ bytes. length bytes ∷ [])
    (simple_desc_rsp 7 ours.nwk_addr (record { inputs = replicate 29 0x0006; outputs = replicate 29 0x0019 }) (device_of (endpoint_at 1 0 inputs 0 outputs ∷ []) 1) 1)

-- K6: 28 clusters, on one side and on both; and 29, likewise
unfoldable pub K6 : Case
K6 =
    record {
      says = crowded_length 28 0 ∷ crowded_length 20 8 ∷ crowded_length 29 0 ∷ crowded_length 28 1 ∷ [];
      expected = answer (69 ∷ []) ∷ answer (69 ∷ []) ∷ refusal 4 ∷ refusal 4 ∷ [];
    }

-- K7: input 0x0402 of profile 0x0104 is endpoint 1's
unfoldable pub K7 : Case
K7 = record { says = found (0x09 ∷ 0x34 ∷ 0x12 ∷ 0x04 ∷ 0x01 ∷ 0x01 ∷ 0x02 ∷ 0x04 ∷ 0x00 ∷ []) ∷ []; expected = answer (1 ∷ []) ∷ [] }

-- K8: profile 0xFFFF and no clusters find none
unfoldable pub K8 : Case
K8 = record { says = found (0x09 ∷ 0x34 ∷ 0x12 ∷ 0xFF ∷ 0xFF ∷ 0x00 ∷ 0x00 ∷ []) ∷ []; expected = answer [] ∷ [] }

-- K9: profile 0x0104 and input 0x0000 with a buffer of one byte: how many are written, and the buffer then
unfoldable pub K9 : Case
K9 =
    let o = found (0x09 ∷ 0x34 ∷ 0x12 ∷ 0x04 ∷ 0x01 ∷ 0x01 ∷ 0x00 ∷ 0x00 ∷ 0x00 ∷ []) in
    record {
      says = mapped (λ n. n ∷ []) (begun_length (0xEE ∷ []) o) ∷ answer (begun (0xEE ∷ []) o) ∷ [];
      expected = answer (1 ∷ []) ∷ answer (1 ∷ []) ∷ [];
    }

-- K10: a bind, and 14 bytes of it
unfoldable pub K10 : Case
K10 =
    record {
      says =
          heard (answered ours (empty_table 32) (asked 0x0021 bind_a))
          ∷ heard (answered ours (empty_table 32) (asked 0x0021 (take 14 bind_a)))
          ∷ [];
      expected = answer (0x8021 ∷ 0x0A ∷ 0x00 ∷ []) ∷ refusal 3 ∷ [];
    }

-- bind A, bind B, unbind A, bind C, unbind B
abbrev pub exchange : List Asked
exchange = asked 0x0021 bind_a ∷ asked 0x0021 bind_b ∷ asked 0x0022 bind_a ∷ asked 0x0021 bind_c ∷ asked 0x0022 bind_b ∷ []

-- K11: the statuses with limit 1, and with limit 2
unfoldable pub K11 : Case
K11 =
    record {
      says = map status_of (run ours (empty_table 1) exchange) ++ map status_of (run ours (empty_table 2) exchange);
      expected =
          answer (0x00 ∷ []) ∷ answer (0x8C ∷ []) ∷ answer (0x00 ∷ []) ∷ answer (0x00 ∷ []) ∷ answer (0x88 ∷ [])
          ∷ answer (0x00 ∷ []) ∷ answer (0x00 ∷ []) ∷ answer (0x00 ∷ []) ∷ answer (0x00 ∷ []) ∷ answer (0x00 ∷ [])
          ∷ [];
    }
