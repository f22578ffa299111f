-- The ten requests, from bytes to fields, and the node request as it is written (document 01, "Payloads"; 2.4.3). A payload that
-- is shorter than its fields and lists is refusal 3, and bytes behind them are ignored.
use Rattle.std.specs.Prelude.{ℕ, ◌+◌, cond, List, [], ◌∷◌, eqb, Option, Some, None}
use Rattle.zigbee_types.specs.Outcome.{Outcome, answer, refusal, mapped, needing}
use Rattle.zigbee_types.specs.Bytes.{number_at, bit_at}
use Rattle.zigbee_types.specs.Layout.{Field, byte, laid, field_of, parsed, lists_in}
use Rattle.zigbee_types.specs.Addresses.{short, ieee_of, short_of, group_of}
use Rattle.zigbee_types.specs.declared.ClusterLists.{ClusterLists}
use Rattle.zigbee_types.specs.declared.ShortAddress.{ShortAddress}
use Rattle.zigbee_types.specs.declared.IeeeAddress.{IeeeAddress}
use Rattle.aps_binding.specs.Entry.{GROUP, DEVICE, group_binding, device_binding}
use Rattle.aps_binding.specs.declared.binding.Binding.{Binding}
use Rattle.zdo_requests.specs.declared.descriptor.NwkAddrReq.{NwkAddrReq}
use Rattle.zdo_requests.specs.declared.descriptor.IeeeAddrReq.{IeeeAddrReq}
use Rattle.zdo_requests.specs.declared.descriptor.AddrOfInterestReq.{AddrOfInterestReq}
use Rattle.zdo_requests.specs.declared.descriptor.SimpleDescReq.{SimpleDescReq}
use Rattle.zdo_requests.specs.declared.descriptor.MatchDescReq.{MatchDescReq}
use Rattle.zdo_requests.specs.declared.descriptor.BindReq.{BindReq}
use Rattle.zdo_requests.specs.declared.descriptor.BindReqDestination.{BindReqDestination}
use Rattle.zdo_requests.specs.declared.descriptor.BindReqDestination.TheVariants.{Group, Device}
use Rattle.zdo_requests.specs.declared.descriptor.MgmtLeaveReq.{MgmtLeaveReq}

-- 2.4.3.1.1: seq, IEEE address, type; StartIndex is not read
unfoldable pub nwk_addr_req_in : List ℕ → Outcome NwkAddrReq
nwk_addr_req_in = parsed (1 ∷ 8 ∷ 1 ∷ []) (λ field. record { seq = field 0; ieee_addr = ieee_of (field 1); request_type = field 2 })

-- 2.4.3.1.2: seq, short address, type; StartIndex is not read
unfoldable pub ieee_addr_req_in : List ℕ → Outcome IeeeAddrReq
ieee_addr_req_in = parsed (1 ∷ 2 ∷ 1 ∷ []) (λ field. record { seq = field 0; nwk_addr_of_interest = short_of (field 1); request_type = field 2 })

-- seq, short address
unfoldable pub addr_of_interest_widths : List ℕ
addr_of_interest_widths = 1 ∷ 2 ∷ []

-- 2.4.3.1.3, 2.4.3.1.4 and 2.4.3.1.6: node, power and active
unfoldable pub addr_of_interest_req_in : List ℕ → Outcome AddrOfInterestReq
addr_of_interest_req_in = parsed addr_of_interest_widths (λ field. record { seq = field 0; nwk_addr_of_interest = short_of (field 1) })

-- the address alone, as `parse_addr_of_interest` gives it
unfoldable pub addr_of_interest_in : List ℕ → Outcome ShortAddress
addr_of_interest_in payload = mapped (λ q. q.nwk_addr_of_interest) (addr_of_interest_req_in payload)

-- 2.4.3.1.5: seq, short address, endpoint
unfoldable pub simple_desc_req_in : List ℕ → Outcome SimpleDescReq
simple_desc_req_in =
    parsed (1 ∷ 2 ∷ 1 ∷ []) (λ field. record { seq = field 0; nwk_addr_of_interest = short_of (field 1); endpoint = field 2 })

-- a match request begins with seq, short address, profile
unfoldable pub match_widths : List ℕ
match_widths = 1 ∷ 2 ∷ 2 ∷ []

-- those fields, then the lists
unfoldable pub match_req_of : (ℕ → ℕ) → ClusterLists → MatchDescReq
match_req_of field lists =
    record {
      seq = field 0;
      nwk_addr_of_interest = short_of (field 1);
      profile_id = field 2;
      input_clusters = lists.input_clusters;
      output_clusters = lists.output_clusters;
    }

-- 2.4.3.1.7: inputs, counted at byte 5, and outputs behind them, two bytes for each cluster; refusal 3 where the payload ends
-- before the outputs do
unfoldable pub match_desc_req_in : List ℕ → Outcome MatchDescReq
match_desc_req_in payload = mapped (match_req_of (field_of match_widths payload)) (lists_in payload 5)

-- a bind request begins with seq, source address, endpoint, cluster
unfoldable pub bind_widths : List ℕ
bind_widths = 1 ∷ 8 ∷ 1 ∷ 2 ∷ []

-- those fields, then the destination
unfoldable pub bind_req_of : (ℕ → ℕ) → BindReqDestination → BindReq
bind_req_of field destination =
    record { seq = field 0; src_address = ieee_of (field 1); src_endpoint = field 2; cluster_id = field 3; destination = destination }

-- a group: two bytes at a place
unfoldable pub group_in : List ℕ → ℕ → Outcome BindReqDestination
group_in bytes at = needing (at + 2) bytes (Group (group_of (number_at 2 bytes at)))

-- a device: the eight bytes of its IEEE address at a place, then its endpoint
unfoldable pub device_in : List ℕ → ℕ → Outcome BindReqDestination
device_in bytes at = needing (at + 9) bytes (Device (ieee_of (number_at 8 bytes at)) (number_at 1 bytes (at + 8)))

-- the destination of which the mode is the byte at a place: 1 a group, 3 a device, any other refusal 3. Bytes that end before the
-- mode have mode 0.
unfoldable pub destination_in : List ℕ → ℕ → Outcome BindReqDestination
destination_in bytes at =
    let mode = number_at 1 bytes at in
    cond (eqb mode GROUP) (group_in bytes (at + 1)) (cond (eqb mode DEVICE) (device_in bytes (at + 1)) (refusal 3))

-- 2.4.3.2.2 and 2.4.3.2.3, bind and unbind: the destination from byte 12 on, so that a group's request has 15 bytes and a
-- device's 22
unfoldable pub bind_req_in : List ℕ → Outcome BindReq
bind_req_in payload = mapped (bind_req_of (field_of bind_widths payload)) (destination_in payload 12)

-- the entry of an endpoint, a cluster and a destination
unfoldable pub binding_to : ℕ → ℕ → BindReqDestination → Binding
binding_to endpoint cluster (Group g) = group_binding endpoint cluster g
binding_to endpoint cluster (Device a to) = device_binding endpoint cluster a to

-- the entry that a bind or unbind request names
unfoldable pub binding_of : BindReq → Binding
binding_of q = binding_to q.src_endpoint q.cluster_id q.destination

-- an IEEE address of zero means none
unfoldable pub option_ieee : ℕ → Option IeeeAddress
option_ieee n = cond (eqb n 0) None (Some (ieee_of n))

-- 2.4.3.3.5: seq, IEEE address, options: bit 6 children, bit 7 rejoin
unfoldable pub mgmt_leave_req_in : List ℕ → Outcome MgmtLeaveReq
mgmt_leave_req_in =
    parsed (1 ∷ 8 ∷ 1 ∷ [])
    (λ field.
    record { seq = field 0; device_address = option_ieee (field 1); remove_children = bit_at 6 (field 2); rejoin = bit_at 7 (field 2) })

-- seq, short address
unfoldable pub addr_of_interest_fields : ℕ → ShortAddress → List Field
addr_of_interest_fields seq address = byte seq ∷ short address ∷ []

-- 2.4.3.1.3, written
unfoldable pub node_desc_req : ℕ → ShortAddress → Outcome (List ℕ)
node_desc_req seq address = answer (laid (addr_of_interest_fields seq address))
