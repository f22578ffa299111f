-- Cases of the requests, from bytes to fields: the shortest payload that suffices, one byte less, nothing, and bytes behind the
-- fields. Bytes of different fields differ, so that order, width and place show. What the definitions say stands on one side, and
-- literals on the other (`Case`).
use Rattle.std.specs.Prelude.{ℕ, List, [], ◌∷◌, ◌++◌, map, take, replicate, Option, Some, None}
use Rattle.zigbee_types.specs.Bytes.{bit}
use Rattle.zigbee_types.specs.Outcome.{Outcome, answer, refusal, mapped}
use Rattle.aps_binding.specs.Entry.{key}
use Rattle.zdo_requests.specs.Requests.{nwk_addr_req_in, ieee_addr_req_in, addr_of_interest_req_in, addr_of_interest_in, simple_desc_req_in, match_desc_req_in, bind_req_in, binding_of, mgmt_leave_req_in}
use Rattle.zdo_requests.specs.declared.descriptor.MatchDescReq.{MatchDescReq}
use Rattle.zdo_requests.specs.declared.descriptor.BindReq.{BindReq}
use Rattle.zdo_requests.specs.declared.descriptor.BindReqDestination.{BindReqDestination}
use Rattle.zdo_requests.specs.declared.descriptor.BindReqDestination.TheVariants.{Group, Device}
use Rattle.zdo_requests.specs.declared.descriptor.MgmtLeaveReq.{MgmtLeaveReq}
use Rattle.demands.specs.Cases.{Case, bind_a}
use Rattle.zigbee_types.specs.declared.IeeeAddress.{IeeeAddress}

-- what a parser reads of the first bytes of a payload, for each of these numbers of bytes
abbrev pub fronts : (List ℕ → Outcome (List ℕ)) → List ℕ → List ℕ → List (Outcome (List ℕ))
fronts parser payload = map (λ n. parser (take n payload))

-- ---- addresses

-- seq, IEEE address, type; then StartIndex and a byte more
abbrev pub nwk_addr_payload : List ℕ
nwk_addr_payload = 0x91 ∷ 0xA1 ∷ 0xA2 ∷ 0xA3 ∷ 0xA4 ∷ 0xA5 ∷ 0xA6 ∷ 0xA7 ∷ 0xA8 ∷ 0x92 ∷ 0x93 ∷ 0x94 ∷ []

-- of a NWK_addr_req nothing, 9 bytes, 10 and 12; of an IEEE_addr_req nothing, 3 bytes, 4 and 6
unfoldable pub AddrPayloads : Case
AddrPayloads =
    record {
      says =
          fronts (λ p. mapped (λ q. q.seq ∷ q.ieee_addr.0 ∷ q.request_type ∷ []) (nwk_addr_req_in p)) nwk_addr_payload (0 ∷ 9 ∷ 10 ∷ 12 ∷ [])
          ++ fronts (λ p. mapped (λ q. q.seq ∷ q.nwk_addr_of_interest.0 ∷ q.request_type ∷ []) (ieee_addr_req_in p)) (0x91 ∷ 0xA1 ∷ 0xA2 ∷ 0x92 ∷ 0x93 ∷ 0x94 ∷ []) (0 ∷ 3 ∷ 4 ∷ 6 ∷ []);
      expected =
          refusal 3
          ∷ refusal 3
          ∷ answer (0x91 ∷ 0xA8A7_A6A5_A4A3_A2A1 ∷ 0x92 ∷ [])
          ∷ answer (0x91 ∷ 0xA8A7_A6A5_A4A3_A2A1 ∷ 0x92 ∷ [])
          ∷ refusal 3
          ∷ refusal 3
          ∷ answer (0x91 ∷ 0xA2A1 ∷ 0x92 ∷ [])
          ∷ answer (0x91 ∷ 0xA2A1 ∷ 0x92 ∷ [])
          ∷ [];
    }

-- ---- the address of interest

-- seq, short address, a byte, and one more
abbrev pub interest_payload : List ℕ
interest_payload = 0x91 ∷ 0xA1 ∷ 0xA2 ∷ 0x92 ∷ 0x93 ∷ []

-- of a node, power or active request nothing, 2 bytes, 3 and 5; so of its address alone; of a simple request nothing, 3 bytes, 4
-- and 5
unfoldable pub InterestPayloads : Case
InterestPayloads =
    record {
      says =
          fronts (λ p. mapped (λ q. q.seq ∷ q.nwk_addr_of_interest.0 ∷ []) (addr_of_interest_req_in p)) interest_payload (0 ∷ 2 ∷ 3 ∷ 5 ∷ [])
          ++ fronts (λ p. mapped (λ a. a.0 ∷ []) (addr_of_interest_in p)) interest_payload (0 ∷ 2 ∷ 3 ∷ 5 ∷ [])
          ++ fronts (λ p. mapped (λ q. q.seq ∷ q.nwk_addr_of_interest.0 ∷ q.endpoint ∷ []) (simple_desc_req_in p)) interest_payload (0 ∷ 3 ∷ 4 ∷ 5 ∷ []);
      expected =
          refusal 3
          ∷ refusal 3
          ∷ answer (0x91 ∷ 0xA2A1 ∷ [])
          ∷ answer (0x91 ∷ 0xA2A1 ∷ [])
          ∷ refusal 3
          ∷ refusal 3
          ∷ answer (0xA2A1 ∷ [])
          ∷ answer (0xA2A1 ∷ [])
          ∷ refusal 3
          ∷ refusal 3
          ∷ answer (0x91 ∷ 0xA2A1 ∷ 0x92 ∷ [])
          ∷ answer (0x91 ∷ 0xA2A1 ∷ 0x92 ∷ [])
          ∷ [];
    }

-- ---- match

-- seq, address, profile; start and count of the inputs, start and count of the outputs
abbrev pub match_shown : MatchDescReq → List ℕ
match_shown q =
    q.seq
    ∷ q.nwk_addr_of_interest.0
    ∷ q.profile_id
    ∷ q.input_clusters.start
    ∷ q.input_clusters.count
    ∷ q.output_clusters.start
    ∷ q.output_clusters.count
    ∷ []

-- the same of a payload
abbrev pub match_in : List ℕ → Outcome (List ℕ)
match_in payload = mapped match_shown (match_desc_req_in payload)

-- K7's payload, and 8 bytes of it; K8's, and 6 bytes of it. Of two inputs and an output nothing; up to the first count; with it;
-- up to the second; with it; with half the output; with the output; and with a byte behind it. Three inputs of which the last
-- lacks a byte. 255 inputs and 255 outputs, whole and one byte short.
unfoldable pub MatchPayloads : Case
MatchPayloads =
    record {
      says =
          fronts match_in (0x09 ∷ 0x34 ∷ 0x12 ∷ 0x04 ∷ 0x01 ∷ 0x01 ∷ 0x02 ∷ 0x04 ∷ 0x00 ∷ []) (9 ∷ 8 ∷ [])
          ++ fronts match_in (0x09 ∷ 0x34 ∷ 0x12 ∷ 0xFF ∷ 0xFF ∷ 0x00 ∷ 0x00 ∷ []) (7 ∷ 6 ∷ [])
          ++ fronts match_in (0x91 ∷ 0xA1 ∷ 0xA2 ∷ 0xB1 ∷ 0xB2 ∷ 0x02 ∷ 0xC1 ∷ 0xC2 ∷ 0xC3 ∷ 0xC4 ∷ 0x01 ∷ 0xD1 ∷ 0xD2 ∷ 0xE1 ∷ []) (0 ∷ 5 ∷ 6 ∷ 10 ∷ 11 ∷ 12 ∷ 13 ∷ 14 ∷ [])
          ++ match_in (0x91 ∷ 0xA1 ∷ 0xA2 ∷ 0xB1 ∷ 0xB2 ∷ 0x03 ∷ 0xC1 ∷ 0xC2 ∷ 0xC3 ∷ 0xC4 ∷ 0xC5 ∷ [])
          ∷ fronts match_in (0x91 ∷ 0xA1 ∷ 0xA2 ∷ 0xB1 ∷ 0xB2 ∷ 0xFF ∷ replicate 510 0xC1 ++ 0xFF ∷ replicate 510 0xD1) (1027 ∷ 1026 ∷ []);
      expected =
          answer (9 ∷ 0x1234 ∷ 0x0104 ∷ 6 ∷ 1 ∷ 9 ∷ 0 ∷ [])
          ∷ refusal 3
          ∷ answer (9 ∷ 0x1234 ∷ 0xFFFF ∷ 6 ∷ 0 ∷ 7 ∷ 0 ∷ [])
          ∷ refusal 3
          ∷ refusal 3
          ∷ refusal 3
          ∷ refusal 3
          ∷ refusal 3
          ∷ refusal 3
          ∷ refusal 3
          ∷ answer (0x91 ∷ 0xA2A1 ∷ 0xB2B1 ∷ 6 ∷ 2 ∷ 11 ∷ 1 ∷ [])
          ∷ answer (0x91 ∷ 0xA2A1 ∷ 0xB2B1 ∷ 6 ∷ 2 ∷ 11 ∷ 1 ∷ [])
          ∷ refusal 3
          ∷ answer (0x91 ∷ 0xA2A1 ∷ 0xB2B1 ∷ 6 ∷ 255 ∷ 517 ∷ 255 ∷ [])
          ∷ refusal 3
          ∷ [];
    }

-- ---- bind and unbind

-- the mode, then the group, or the address and its endpoint
abbrev pub destination_shown : BindReqDestination → List ℕ
destination_shown (Group g) = 1 ∷ g.0 ∷ []
destination_shown (Device a endpoint) = 3 ∷ a.0 ∷ endpoint ∷ []

-- seq, source address, endpoint, cluster, destination
abbrev pub bind_shown : BindReq → List ℕ
bind_shown q = q.seq ∷ q.src_address.0 ∷ q.src_endpoint ∷ q.cluster_id ∷ destination_shown q.destination

-- the same of a payload
abbrev pub bind_in : List ℕ → Outcome (List ℕ)
bind_in payload = mapped bind_shown (bind_req_in payload)

-- a bind request of a mode, with ten bytes behind the mode
abbrev pub of_mode : ℕ → List ℕ
of_mode mode =
    0x91 ∷ 0xA1 ∷ 0xA2 ∷ 0xA3 ∷ 0xA4 ∷ 0xA5 ∷ 0xA6 ∷ 0xA7 ∷ 0xA8 ∷ 0x92 ∷ 0xB1 ∷ 0xB2
    ∷ mode
    ∷ 0xD1 ∷ 0xD2 ∷ 0xD3 ∷ 0xD4 ∷ 0xD5 ∷ 0xD6 ∷ 0xD7 ∷ 0xD8 ∷ 0x93 ∷ 0x94
    ∷ []

-- of K10's request nothing, 12 bytes, 13, 14 and 15; a group's with 14 bytes, 15 and 22; a device's with 15 bytes, 21, 22 and 23;
-- other modes with 22
unfoldable pub BindPayloads : Case
BindPayloads =
    record {
      says =
          fronts bind_in bind_a (0 ∷ 12 ∷ 13 ∷ 14 ∷ 15 ∷ [])
          ++ fronts bind_in (of_mode 1) (14 ∷ 15 ∷ 22 ∷ [])
          ++ fronts bind_in (of_mode 3) (15 ∷ 21 ∷ 22 ∷ 23 ∷ [])
          ++ map (λ mode. bind_in (take 22 (of_mode mode))) (0 ∷ 2 ∷ 4 ∷ 0x11 ∷ 0x83 ∷ 255 ∷ []);
      expected =
          refusal 3
          ∷ refusal 3
          ∷ refusal 3
          ∷ refusal 3
          ∷ answer (0x0A ∷ 0x0102_0304_0506_0708 ∷ 1 ∷ 0x0402 ∷ 1 ∷ 0x0003 ∷ [])
          ∷ refusal 3
          ∷ answer (0x91 ∷ 0xA8A7_A6A5_A4A3_A2A1 ∷ 0x92 ∷ 0xB2B1 ∷ 1 ∷ 0xD2D1 ∷ [])
          ∷ answer (0x91 ∷ 0xA8A7_A6A5_A4A3_A2A1 ∷ 0x92 ∷ 0xB2B1 ∷ 1 ∷ 0xD2D1 ∷ [])
          ∷ refusal 3
          ∷ refusal 3
          ∷ answer (0x91 ∷ 0xA8A7_A6A5_A4A3_A2A1 ∷ 0x92 ∷ 0xB2B1 ∷ 3 ∷ 0xD8D7_D6D5_D4D3_D2D1 ∷ 0x93 ∷ [])
          ∷ answer (0x91 ∷ 0xA8A7_A6A5_A4A3_A2A1 ∷ 0x92 ∷ 0xB2B1 ∷ 3 ∷ 0xD8D7_D6D5_D4D3_D2D1 ∷ 0x93 ∷ [])
          ∷ refusal 3
          ∷ refusal 3
          ∷ refusal 3
          ∷ refusal 3
          ∷ refusal 3
          ∷ refusal 3
          ∷ [];
    }

-- the entry that a request for a group names, and one for a device: cluster, endpoint, destination address, destination endpoint,
-- group and mode
unfoldable pub RequestedEntries : Case
RequestedEntries =
    record {
      says = map (λ mode. mapped (λ q. key (binding_of q)) (bind_req_in (of_mode mode))) (1 ∷ 3 ∷ []);
      expected =
          answer (0xB2B1 ∷ 0x92 ∷ 0 ∷ 0 ∷ 0xD2D1 ∷ 1 ∷ []) ∷ answer (0xB2B1 ∷ 0x92 ∷ 0xD8D7_D6D5_D4D3_D2D1 ∷ 0x93 ∷ 0 ∷ 3 ∷ []) ∷ [];
    }

-- ---- leave

-- the address, where there is one
abbrev pub some_address : Option IeeeAddress → List ℕ
some_address (Some a) = a.0 ∷ []
some_address None = []

-- seq, children, rejoin, and the address, where there is one
abbrev pub leave_shown : MgmtLeaveReq → List ℕ
leave_shown q = q.seq ∷ bit q.remove_children ∷ bit q.rejoin ∷ some_address q.device_address

-- the same of a payload
abbrev pub leave_in : List ℕ → Outcome (List ℕ)
leave_in payload = mapped leave_shown (mgmt_leave_req_in payload)

-- of a leave request nothing, 9 bytes, 10 and 11; one with an address of zero and each of five options; one whose address is 1, and
-- one whose address has its highest byte alone
unfoldable pub LeavePayloads : Case
LeavePayloads =
    record {
      says =
          fronts leave_in (0x91 ∷ 0xA1 ∷ 0xA2 ∷ 0xA3 ∷ 0xA4 ∷ 0xA5 ∷ 0xA6 ∷ 0xA7 ∷ 0xA8 ∷ 0x40 ∷ 0x92 ∷ []) (0 ∷ 9 ∷ 10 ∷ 11 ∷ [])
          ++ map (λ options. leave_in (0x91 ∷ replicate 8 0x00 ++ options ∷ [])) (0x00 ∷ 0x40 ∷ 0x80 ∷ 0xC0 ∷ 0x3F ∷ [])
          ++ leave_in (0x91 ∷ 0x01 ∷ replicate 7 0x00 ++ 0xBF ∷ [])
          ∷ leave_in (0x91 ∷ replicate 7 0x00 ++ 0x01 ∷ 0x7F ∷ [])
          ∷ [];
      expected =
          refusal 3
          ∷ refusal 3
          ∷ answer (0x91 ∷ 1 ∷ 0 ∷ 0xA8A7_A6A5_A4A3_A2A1 ∷ [])
          ∷ answer (0x91 ∷ 1 ∷ 0 ∷ 0xA8A7_A6A5_A4A3_A2A1 ∷ [])
          ∷ answer (0x91 ∷ 0 ∷ 0 ∷ [])
          ∷ answer (0x91 ∷ 1 ∷ 0 ∷ [])
          ∷ answer (0x91 ∷ 0 ∷ 1 ∷ [])
          ∷ answer (0x91 ∷ 1 ∷ 1 ∷ [])
          ∷ answer (0x91 ∷ 0 ∷ 0 ∷ [])
          ∷ answer (0x91 ∷ 0 ∷ 1 ∷ 0x0000_0000_0000_0001 ∷ [])
          ∷ answer (0x91 ∷ 1 ∷ 0 ∷ 0x0100_0000_0000_0000 ∷ [])
          ∷ [];
    }
