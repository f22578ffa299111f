-- Cases of the dispatcher: each request, about us and about another device; bind and unbind; the order of refusals; what is
-- left. What the definitions say stands on one side, and literals on the other (`Case`).
use Rattle.std.specs.Prelude.{ℕ, List, [], ◌∷◌, ◌++◌, map, length, take, drop, replicate}
use Rattle.zigbee_types.specs.Outcome.{Outcome, answer, refusal, mapped, fitted, written}
use Rattle.zigbee_types.specs.Addresses.{short_of}
use Rattle.node_descriptor.specs.declared.LogicalType.{LogicalType}
use Rattle.node_descriptor.specs.declared.LogicalType.TheVariants as type
use Rattle.aps_binding.specs.Entry.{key}
use Rattle.aps_binding_table.specs.Table.{empty_table}
use Rattle.zdo_requests.specs.Requests.{node_desc_req}
use Rattle.zdo_discovery.specs.Host.{Host, Asked, asking}
use Rattle.zdo_dispatcher.specs.Answers.{Told, replied, leaving, told_of, answered, buffer_after}
use Rattle.lines.specs.Chunks.{joined}
use Rattle.our_device.specs.OurDevice.{our_power, our_pools, our_device, ours, endpoint1, endpoint2}
use Rattle.demands.specs.Devices.{endpoint_at, device_of, host_of}
use Rattle.demands.specs.Cases.{Case, asked, heard, status_of, bind_head, bind_a, bind_b, bind_c, tried, replies, counting, node_of, tried_on, run, run_table}

-- a NWK_addr_req for our IEEE address, of a type
abbrev pub nwk_addr : ℕ → List ℕ
nwk_addr kind = 0x07 ∷ 0x08 ∷ 0x07 ∷ 0x06 ∷ 0x05 ∷ 0x04 ∷ 0x03 ∷ 0x02 ∷ 0x01 ∷ kind ∷ []

-- single, extended, another type, another device; one byte short
unfoldable pub NwkAddr : Case
NwkAddr =
    record {
      says =
          replies 0x0000 (nwk_addr 0x00)
          ∷ replies 0x0000 (nwk_addr 0x01)
          ∷ replies 0x0000 (nwk_addr 0x02)
          ∷ replies 0x0000 (0x07 ∷ 0xF1 ∷ 0xF2 ∷ 0xF3 ∷ 0xF4 ∷ 0xF5 ∷ 0xF6 ∷ 0xF7 ∷ 0xF8 ∷ 0x02 ∷ [])
          ∷ replies 0x0000 (take 9 (nwk_addr 0x00))
          ∷ [];
      expected =
          answer (0x8000 ∷ 0x07 ∷ 0x00 ∷ 0x08 ∷ 0x07 ∷ 0x06 ∷ 0x05 ∷ 0x04 ∷ 0x03 ∷ 0x02 ∷ 0x01 ∷ 0x34 ∷ 0x12 ∷ [])
          ∷ answer (0x8000 ∷ 0x07 ∷ 0x00 ∷ 0x08 ∷ 0x07 ∷ 0x06 ∷ 0x05 ∷ 0x04 ∷ 0x03 ∷ 0x02 ∷ 0x01 ∷ 0x34 ∷ 0x12 ∷ 0x00 ∷ 0x00 ∷ [])
          ∷ answer (0x8000 ∷ 0x07 ∷ 0x80 ∷ 0x08 ∷ 0x07 ∷ 0x06 ∷ 0x05 ∷ 0x04 ∷ 0x03 ∷ 0x02 ∷ 0x01 ∷ 0x34 ∷ 0x12 ∷ [])
          ∷ answer (0x8000 ∷ 0x07 ∷ 0x81 ∷ 0xF1 ∷ 0xF2 ∷ 0xF3 ∷ 0xF4 ∷ 0xF5 ∷ 0xF6 ∷ 0xF7 ∷ 0xF8 ∷ 0xFF ∷ 0xFF ∷ [])
          ∷ refusal 3
          ∷ [];
    }

-- us, single, extended and of another type; another device; one byte short
unfoldable pub IeeeAddr : Case
IeeeAddr =
    record {
      says =
          replies 0x0001 (0x07 ∷ 0x34 ∷ 0x12 ∷ 0x00 ∷ [])
          ∷ replies 0x0001 (0x07 ∷ 0x34 ∷ 0x12 ∷ 0x01 ∷ [])
          ∷ replies 0x0001 (0x07 ∷ 0x34 ∷ 0x12 ∷ 0xFF ∷ [])
          ∷ replies 0x0001 (0x07 ∷ 0x78 ∷ 0x56 ∷ 0x00 ∷ [])
          ∷ replies 0x0001 (0x07 ∷ 0x34 ∷ 0x12 ∷ [])
          ∷ [];
      expected =
          answer (0x8001 ∷ 0x07 ∷ 0x00 ∷ 0x08 ∷ 0x07 ∷ 0x06 ∷ 0x05 ∷ 0x04 ∷ 0x03 ∷ 0x02 ∷ 0x01 ∷ 0x34 ∷ 0x12 ∷ [])
          ∷ answer (0x8001 ∷ 0x07 ∷ 0x00 ∷ 0x08 ∷ 0x07 ∷ 0x06 ∷ 0x05 ∷ 0x04 ∷ 0x03 ∷ 0x02 ∷ 0x01 ∷ 0x34 ∷ 0x12 ∷ 0x00 ∷ 0x00 ∷ [])
          ∷ answer (0x8001 ∷ 0x07 ∷ 0x80 ∷ 0x08 ∷ 0x07 ∷ 0x06 ∷ 0x05 ∷ 0x04 ∷ 0x03 ∷ 0x02 ∷ 0x01 ∷ 0x34 ∷ 0x12 ∷ [])
          ∷ answer (0x8001 ∷ 0x07 ∷ 0x81 ∷ 0xFF ∷ 0xFF ∷ 0xFF ∷ 0xFF ∷ 0xFF ∷ 0xFF ∷ 0xFF ∷ 0xFF ∷ 0x78 ∷ 0x56 ∷ [])
          ∷ refusal 3
          ∷ [];
    }

-- what a device of a type replies to requests for 0x5678: node, power, simple, active and match
abbrev pub elsewhere : LogicalType → List (Outcome (List ℕ))
elsewhere t =
    let h = host_of (record { node = node_of t; power = our_power; endpoints = our_device.endpoints; endpoint_count = 2 }) our_pools in
    tried_on h (empty_table 32) 0x0002 (0x07 ∷ 0x78 ∷ 0x56 ∷ []) 128
    ∷ tried_on h (empty_table 32) 0x0003 (0x07 ∷ 0x78 ∷ 0x56 ∷ []) 128
    ∷ tried_on h (empty_table 32) 0x0004 (0x07 ∷ 0x78 ∷ 0x56 ∷ 0x01 ∷ []) 128
    ∷ tried_on h (empty_table 32) 0x0005 (0x07 ∷ 0x78 ∷ 0x56 ∷ []) 128
    ∷ tried_on h (empty_table 32) 0x0006 (0x07 ∷ 0x78 ∷ 0x56 ∷ 0x04 ∷ 0x01 ∷ 0x00 ∷ 0x00 ∷ []) 128
    ∷ []

-- a coordinator, a router, an end device, and a device of a reserved type that has the number of a router
unfoldable pub Elsewhere : Case
Elsewhere =
    record {
      says = elsewhere type.Coordinator ++ elsewhere type.Router ++ elsewhere type.EndDevice ++ elsewhere (type.Reserved 1);
      expected =
          answer (0x8002 ∷ 0x07 ∷ 0x81 ∷ 0x78 ∷ 0x56 ∷ [])
          ∷ answer (0x8003 ∷ 0x07 ∷ 0x81 ∷ 0x78 ∷ 0x56 ∷ [])
          ∷ answer (0x8004 ∷ 0x07 ∷ 0x81 ∷ 0x78 ∷ 0x56 ∷ 0x00 ∷ [])
          ∷ answer (0x8005 ∷ 0x07 ∷ 0x81 ∷ 0x78 ∷ 0x56 ∷ 0x00 ∷ [])
          ∷ answer (0x8006 ∷ 0x07 ∷ 0x81 ∷ 0x00 ∷ [])
          ∷ answer (0x8002 ∷ 0x07 ∷ 0x81 ∷ 0x78 ∷ 0x56 ∷ [])
          ∷ answer (0x8003 ∷ 0x07 ∷ 0x81 ∷ 0x78 ∷ 0x56 ∷ [])
          ∷ answer (0x8004 ∷ 0x07 ∷ 0x81 ∷ 0x78 ∷ 0x56 ∷ 0x00 ∷ [])
          ∷ answer (0x8005 ∷ 0x07 ∷ 0x81 ∷ 0x78 ∷ 0x56 ∷ 0x00 ∷ [])
          ∷ answer (0x8006 ∷ 0x07 ∷ 0x81 ∷ 0x00 ∷ [])
          ∷ answer (0x8002 ∷ 0x07 ∷ 0x80 ∷ 0x78 ∷ 0x56 ∷ [])
          ∷ answer (0x8003 ∷ 0x07 ∷ 0x80 ∷ 0x78 ∷ 0x56 ∷ [])
          ∷ answer (0x8004 ∷ 0x07 ∷ 0x80 ∷ 0x78 ∷ 0x56 ∷ 0x00 ∷ [])
          ∷ answer (0x8005 ∷ 0x07 ∷ 0x80 ∷ 0x78 ∷ 0x56 ∷ 0x00 ∷ [])
          ∷ answer (0x8006 ∷ 0x07 ∷ 0x80 ∷ 0x00 ∷ [])
          ∷ answer (0x8002 ∷ 0x07 ∷ 0x80 ∷ 0x78 ∷ 0x56 ∷ [])
          ∷ answer (0x8003 ∷ 0x07 ∷ 0x80 ∷ 0x78 ∷ 0x56 ∷ [])
          ∷ answer (0x8004 ∷ 0x07 ∷ 0x80 ∷ 0x78 ∷ 0x56 ∷ 0x00 ∷ [])
          ∷ answer (0x8005 ∷ 0x07 ∷ 0x80 ∷ 0x78 ∷ 0x56 ∷ 0x00 ∷ [])
          ∷ answer (0x8006 ∷ 0x07 ∷ 0x80 ∷ 0x00 ∷ [])
          ∷ [];
    }

-- node; power; simple of endpoint 2, of one that we do not have, and of three bytes; a match that finds nothing
unfoldable pub Ours : Case
Ours =
    record {
      says =
          replies 0x0002 (0x07 ∷ 0x34 ∷ 0x12 ∷ [])
          ∷ replies 0x0003 (0x07 ∷ 0x34 ∷ 0x12 ∷ [])
          ∷ replies 0x0004 (0x07 ∷ 0x34 ∷ 0x12 ∷ 0x02 ∷ [])
          ∷ replies 0x0004 (0x07 ∷ 0x34 ∷ 0x12 ∷ 0x03 ∷ [])
          ∷ replies 0x0004 (0x07 ∷ 0x34 ∷ 0x12 ∷ [])
          ∷ replies 0x0006 (0x07 ∷ 0x34 ∷ 0x12 ∷ 0x04 ∷ 0x01 ∷ 0x00 ∷ 0x01 ∷ 0x00 ∷ 0x05 ∷ [])
          ∷ [];
      expected =
          answer (0x8002 ∷ 0x07 ∷ 0x00 ∷ 0x34 ∷ 0x12 ∷ 0x02 ∷ 0x40 ∷ 0x80 ∷ 0xCD ∷ 0xAB ∷ 0x52 ∷ 0x80 ∷ 0x00 ∷ 0x00 ∷ 0x2C ∷ 0x80 ∷ 0x00 ∷ 0x00 ∷ [])
          ∷ answer (0x8003 ∷ 0x07 ∷ 0x00 ∷ 0x34 ∷ 0x12 ∷ 0x42 ∷ 0x84 ∷ [])
          ∷ answer (0x8004 ∷ 0x07 ∷ 0x00 ∷ 0x34 ∷ 0x12 ∷ 0x0C ∷ 0x02 ∷ 0x04 ∷ 0x01 ∷ 0x02 ∷ 0x04 ∷ 0x00 ∷ 0x02 ∷ 0x00 ∷ 0x00 ∷ 0x00 ∷ 0x05 ∷ 0x00 ∷ [])
          ∷ answer (0x8004 ∷ 0x07 ∷ 0x83 ∷ 0x34 ∷ 0x12 ∷ 0x00 ∷ [])
          ∷ refusal 3
          ∷ answer (0x8006 ∷ 0x07 ∷ 0x00 ∷ 0x34 ∷ 0x12 ∷ 0x00 ∷ [])
          ∷ [];
    }

-- The number of a request is the number of its reply: each request about us; each about another device, with a bind and an unbind
-- from there
unfoldable pub Sequence : Case
Sequence =
    record {
      says =
          map (λ a. mapped (take 2) (heard a))
          (run ours (empty_table 32)
          (asked 0x0000 (0x91 ∷ drop 1 (nwk_addr 0x00))
          ∷ asked 0x0001 (0x91 ∷ 0x34 ∷ 0x12 ∷ 0x00 ∷ [])
          ∷ asked 0x0002 (0x91 ∷ 0x34 ∷ 0x12 ∷ [])
          ∷ asked 0x0003 (0x91 ∷ 0x34 ∷ 0x12 ∷ [])
          ∷ asked 0x0004 (0x91 ∷ 0x34 ∷ 0x12 ∷ 0x01 ∷ [])
          ∷ asked 0x0005 (0x91 ∷ 0x34 ∷ 0x12 ∷ [])
          ∷ asked 0x0006 (0x91 ∷ 0x34 ∷ 0x12 ∷ 0x04 ∷ 0x01 ∷ 0x00 ∷ 0x00 ∷ [])
          ∷ asked 0x0021 (0x91 ∷ drop 1 bind_a)
          ∷ asked 0x0022 (0x91 ∷ drop 1 bind_a)
          ∷ asked 0x0000 (0x91 ∷ replicate 8 0xF1 ++ 0x00 ∷ [])
          ∷ asked 0x0001 (0x91 ∷ 0x78 ∷ 0x56 ∷ 0x00 ∷ [])
          ∷ asked 0x0002 (0x91 ∷ 0x78 ∷ 0x56 ∷ [])
          ∷ asked 0x0003 (0x91 ∷ 0x78 ∷ 0x56 ∷ [])
          ∷ asked 0x0004 (0x91 ∷ 0x78 ∷ 0x56 ∷ 0x01 ∷ [])
          ∷ asked 0x0005 (0x91 ∷ 0x78 ∷ 0x56 ∷ [])
          ∷ asked 0x0006 (0x91 ∷ 0x78 ∷ 0x56 ∷ 0x04 ∷ 0x01 ∷ 0x00 ∷ 0x00 ∷ [])
          ∷ asked 0x0021 (0x91 ∷ 0x09 ∷ drop 2 bind_a)
          ∷ asked 0x0022 (0x91 ∷ 0x09 ∷ drop 2 bind_a)
          ∷ []));
      expected =
          answer (0x8000 ∷ 0x91 ∷ [])
          ∷ answer (0x8001 ∷ 0x91 ∷ [])
          ∷ answer (0x8002 ∷ 0x91 ∷ [])
          ∷ answer (0x8003 ∷ 0x91 ∷ [])
          ∷ answer (0x8004 ∷ 0x91 ∷ [])
          ∷ answer (0x8005 ∷ 0x91 ∷ [])
          ∷ answer (0x8006 ∷ 0x91 ∷ [])
          ∷ answer (0x8021 ∷ 0x91 ∷ [])
          ∷ answer (0x8022 ∷ 0x91 ∷ [])
          ∷ answer (0x8000 ∷ 0x91 ∷ [])
          ∷ answer (0x8001 ∷ 0x91 ∷ [])
          ∷ answer (0x8002 ∷ 0x91 ∷ [])
          ∷ answer (0x8003 ∷ 0x91 ∷ [])
          ∷ answer (0x8004 ∷ 0x91 ∷ [])
          ∷ answer (0x8005 ∷ 0x91 ∷ [])
          ∷ answer (0x8006 ∷ 0x91 ∷ [])
          ∷ answer (0x8021 ∷ 0x91 ∷ [])
          ∷ answer (0x8022 ∷ 0x91 ∷ [])
          ∷ [];
    }

-- a host whose records are endpoints 1 and 2, the first of them in use
abbrev pub half_host : Host
half_host = host_of (device_of (endpoint1 ∷ endpoint2 ∷ []) 1) our_pools

-- a host of 32 records that match K7's request
abbrev pub full_host : Host
full_host = host_of (device_of (replicate 32 endpoint1) 32) our_pools

-- K7's request
abbrev pub match_a : List ℕ
match_a = 0x09 ∷ 0x34 ∷ 0x12 ∷ 0x04 ∷ 0x01 ∷ 0x01 ∷ 0x02 ∷ 0x04 ∷ 0x00 ∷ []

-- A record behind the count answers for nothing: the active list, its simple reply, a match that it has too, and a bind from it. A
-- list of 32 is whole: the reply's cluster and its first five bytes, and the number of all its bytes and one for the cluster; and a
-- buffer one byte short. An unknown cluster with a pool that is too short, and with one of 513 clusters.
unfoldable pub HostTables : Case
HostTables =
    record {
      says =
          tried_on half_host (empty_table 32) 0x0005 (0x07 ∷ 0x34 ∷ 0x12 ∷ []) 128
          ∷ tried_on half_host (empty_table 32) 0x0004 (0x07 ∷ 0x34 ∷ 0x12 ∷ 0x02 ∷ []) 128
          ∷ tried_on half_host (empty_table 32) 0x0006 (0x07 ∷ 0x34 ∷ 0x12 ∷ 0x04 ∷ 0x01 ∷ 0x01 ∷ 0x00 ∷ 0x00 ∷ 0x00 ∷ []) 128
          ∷ tried_on half_host (empty_table 32) 0x0021 (take 9 bind_a ++ 0x02 ∷ drop 10 bind_a) 128
          ∷ mapped (λ xs. take 6 xs ++ length xs ∷ []) (tried_on full_host (empty_table 32) 0x0006 match_a 37)
          ∷ tried_on full_host (empty_table 32) 0x0006 match_a 36
          ∷ tried_on (host_of our_device (record { inputs = our_pools.inputs; outputs = [] })) (empty_table 32) 0x0007 [] 0
          ∷ tried_on (host_of our_device (record { inputs = replicate 513 0x0006; outputs = our_pools.outputs })) (empty_table 32) 0x0007 [] 0
          ∷ [];
      expected =
          answer (0x8005 ∷ 0x07 ∷ 0x00 ∷ 0x34 ∷ 0x12 ∷ 0x01 ∷ 0x01 ∷ [])
          ∷ answer (0x8004 ∷ 0x07 ∷ 0x83 ∷ 0x34 ∷ 0x12 ∷ 0x00 ∷ [])
          ∷ answer (0x8006 ∷ 0x07 ∷ 0x00 ∷ 0x34 ∷ 0x12 ∷ 0x01 ∷ 0x01 ∷ [])
          ∷ answer (0x8021 ∷ 0x0A ∷ 0x82 ∷ [])
          ∷ answer (0x8006 ∷ 0x09 ∷ 0x00 ∷ 0x34 ∷ 0x12 ∷ 0x20 ∷ 38 ∷ [])
          ∷ refusal 5
          ∷ refusal 1
          ∷ refusal 1
          ∷ [];
    }

-- the keys of the entries in the first three places, after requests
abbrev pub first_keys : List Asked → List ℕ
first_keys requests = joined (map key (take 3 (run_table ours (empty_table 32) requests).entries))

-- another source; an endpoint that is not ours; both, where the source comes first; mode 2; 21 bytes of 22; a duplicate in a
-- full table
unfoldable pub Linking : Case
Linking =
    record {
      says =
          replies 0x0021 (0x0A ∷ 0x09 ∷ drop 2 bind_a)
          ∷ replies 0x0022 (take 9 bind_a ++ 0x03 ∷ drop 10 bind_a)
          ∷ replies 0x0021 (0x0A ∷ 0x09 ∷ take 7 (drop 2 bind_a) ++ 0x03 ∷ drop 10 bind_a)
          ∷ replies 0x0021 (bind_head ++ 0x02 ∷ 0x03 ∷ 0x00 ∷ [])
          ∷ replies 0x0021 (take 21 bind_c)
          ∷ map status_of (run ours (empty_table 1) (asked 0x0021 bind_a ∷ asked 0x0021 bind_a ∷ []));
      expected =
          answer (0x8021 ∷ 0x0A ∷ 0x84 ∷ [])
          ∷ answer (0x8022 ∷ 0x0A ∷ 0x82 ∷ [])
          ∷ answer (0x8021 ∷ 0x0A ∷ 0x84 ∷ [])
          ∷ refusal 3
          ∷ refusal 3
          ∷ answer (0x00 ∷ [])
          ∷ answer (0x00 ∷ [])
          ∷ [];
    }

-- A, B and C bound and B unbound: A, C, and the group binding of zeros. An entry is shown as cluster, endpoint, destination
-- address, destination endpoint, group and mode. There are thirty-two places throughout.
unfoldable pub Shifting : Case
Shifting =
    record {
      says =
          answer (first_keys (asked 0x0021 bind_a ∷ asked 0x0021 bind_b ∷ asked 0x0021 bind_c ∷ asked 0x0022 bind_b ∷ []))
          ∷ answer
          (length (empty_table 32).entries
          ∷ length (run_table ours (empty_table 32) (asked 0x0021 bind_a ∷ [])).entries
          ∷ length (run_table ours (empty_table 32) (asked 0x0021 bind_a ∷ asked 0x0022 bind_a ∷ [])).entries
          ∷ [])
          ∷ [];
      expected =
          answer
          (0x0402 ∷ 0x01 ∷ 0x00 ∷ 0x00 ∷ 0x0003 ∷ 0x01
          ∷ 0x0402 ∷ 0x01 ∷ 0xF8F7_F6F5_F4F3_F2F1 ∷ 0x01 ∷ 0x0000 ∷ 0x03
          ∷ 0x0000 ∷ 0x00 ∷ 0x00 ∷ 0x00 ∷ 0x0000 ∷ 0x01
          ∷ [])
          ∷ answer (32 ∷ 32 ∷ 32 ∷ [])
          ∷ [];
    }

-- a host whose endpoint 1 has 29 inputs
abbrev pub crowded_host : Host
crowded_host = host_of (device_of (endpoint_at 1 0 29 0 0 ∷ []) 1) (record { inputs = replicate 29 0x0006; outputs = [] })

-- a count of 33 records, a limit of 33 and a count above the limit, before an unknown cluster; that before a short payload; a
-- short payload before 29 clusters; those before a short buffer, and not about another device; a short payload before a short
-- buffer; a buffer one byte short, and one that is just long enough; a leave with no buffer, and one byte short
unfoldable pub RefusalOrder : Case
RefusalOrder =
    record {
      says =
          tried_on (host_of (device_of (endpoint1 ∷ endpoint2 ∷ []) 33) our_pools) (empty_table 32) 0x0007 [] 0
          ∷ tried (empty_table 33) 0x0007 [] 0
          ∷ tried (counting 1 2) 0x0007 [] 0
          ∷ tried (counting 32 32) 0x0007 [] 0
          ∷ tried_on crowded_host (empty_table 32) 0x0004 (0x07 ∷ 0x34 ∷ 0x12 ∷ []) 0
          ∷ tried_on crowded_host (empty_table 32) 0x0004 (0x07 ∷ 0x34 ∷ 0x12 ∷ 0x01 ∷ []) 0
          ∷ tried_on crowded_host (empty_table 32) 0x0004 (0x07 ∷ 0x78 ∷ 0x56 ∷ 0x01 ∷ []) 128
          ∷ tried (empty_table 32) 0x0005 (0x07 ∷ 0x34 ∷ []) 0
          ∷ tried (empty_table 32) 0x0005 (0x07 ∷ 0x34 ∷ 0x12 ∷ []) 6
          ∷ tried (empty_table 32) 0x0005 (0x07 ∷ 0x34 ∷ 0x12 ∷ []) 7
          ∷ tried (empty_table 32) 0x0034 (replicate 10 0x00) 0
          ∷ tried (empty_table 32) 0x0034 (replicate 9 0x00) 0
          ∷ [];
      expected =
          refusal 1
          ∷ refusal 1
          ∷ refusal 1
          ∷ refusal 2
          ∷ refusal 3
          ∷ refusal 4
          ∷ answer (0x8004 ∷ 0x07 ∷ 0x80 ∷ 0x78 ∷ 0x56 ∷ 0x00 ∷ [])
          ∷ refusal 3
          ∷ refusal 5
          ∷ answer (0x8005 ∷ 0x07 ∷ 0x00 ∷ 0x34 ∷ 0x12 ∷ 0x02 ∷ 0x01 ∷ 0x02 ∷ [])
          ∷ answer []
          ∷ refusal 3
          ∷ [];
    }

-- a bind with a buffer of one byte is refused: nothing is held, and the buffer is as it was; after an answer it is as it was
-- behind the reply. A leave leaves the buffer and the table. A node request into one byte, and into four.
unfoldable pub Left : Case
Left =
    let short : Asked = record { cluster = 0x0021; payload = bind_a; room = 1 } in
    record {
      says =
          heard (answered ours (empty_table 32) short)
          ∷ answer ((run_table ours (empty_table 32) (short ∷ [])).count ∷ [])
          ∷ answer (buffer_after (0xEE ∷ []) (answered ours (empty_table 32) short))
          ∷ answer (buffer_after (0xEE ∷ 0xEE ∷ 0xEE ∷ []) (answered ours (empty_table 32) (asked 0x0021 bind_a)))
          ∷ answer (buffer_after (0xEE ∷ []) (answered ours (empty_table 32) (asked 0x0034 (replicate 10 0x00))))
          ∷ answer ((run_table ours (empty_table 32) (asked 0x0021 bind_a ∷ asked 0x0034 (replicate 10 0x00) ∷ [])).count ∷ [])
          ∷ answer (written (0xEE ∷ []) (fitted 1 (node_desc_req 7 (short_of 0x1234))))
          ∷ answer (written (0xEE ∷ 0xEE ∷ 0xEE ∷ 0xEE ∷ []) (fitted 4 (node_desc_req 7 (short_of 0x1234))))
          ∷ [];
      expected =
          refusal 5
          ∷ answer (0 ∷ [])
          ∷ answer (0xEE ∷ [])
          ∷ answer (0x0A ∷ 0x00 ∷ 0xEE ∷ [])
          ∷ answer (0xEE ∷ [])
          ∷ answer (1 ∷ [])
          ∷ answer (0xEE ∷ [])
          ∷ answer (0x07 ∷ 0x34 ∷ 0x12 ∷ 0xEE ∷ [])
          ∷ [];
    }

-- what is told of an answer
abbrev pub told_numbers : Told → List ℕ
told_numbers (replied cluster n) = cluster ∷ n ∷ []
told_numbers (leaving q) = q.seq ∷ []

-- a reply is told by its cluster and length, a leave by its request; the room is the length of the buffer
unfoldable pub Telling : Case
Telling =
    record {
      says =
          mapped (λ a. told_numbers (told_of a)) (answered ours (empty_table 32) (asking 0x0021 bind_a (0xEE ∷ 0xEE ∷ [])))
          ∷ mapped (λ a. told_numbers (told_of a)) (answered ours (empty_table 32) (asking 0x0021 bind_a (0xEE ∷ [])))
          ∷ mapped (λ a. told_numbers (told_of a)) (answered ours (empty_table 32) (asking 0x0034 (0x07 ∷ replicate 9 0x00) []))
          ∷ [];
      expected = answer (0x8021 ∷ 2 ∷ []) ∷ refusal 5 ∷ answer (7 ∷ []) ∷ [];
    }
