-- The discovery requests: what a host with good tables replies (document 01, "Binding and dispatch"). No binding table comes
-- into it.
use Rattle.std.specs.Prelude.{ℕ, true, false, cond, List, eqb}
use Rattle.zigbee_types.specs.Outcome.{Outcome, refusal, and_then, fitted}
use Rattle.zigbee_types.specs.Addresses.{ieee_of, short_of, same_ieee, same_short}
use Rattle.zigbee_types.specs.Statuses.{INV_REQUESTTYPE, DEVICE_NOT_FOUND}
use Rattle.zigbee_types.specs.declared.IeeeAddress.{IeeeAddress}
use Rattle.zigbee_types.specs.declared.ShortAddress.{ShortAddress}
use Rattle.node_descriptor.specs.declared.LogicalType.{LogicalType}
use Rattle.node_descriptor.specs.declared.LogicalType.TheVariants.{Coordinator, Router, EndDevice, Reserved}
use Rattle.node_descriptor.specs.declared.descriptor.NodeDescriptorConfig.{NodeDescriptorConfig}
use Rattle.node_power_descriptor.specs.declared.descriptor.PowerDescriptorConfig.{PowerDescriptorConfig}
use Rattle.simple_descriptor.specs.SimpleDescriptor.{Endpoint}
use Rattle.zdo_requests.specs.Clusters.{NWK_ADDR_REQ_NUMBER, IEEE_ADDR_REQ_NUMBER, NODE_DESC_REQ_NUMBER, POWER_DESC_REQ_NUMBER, SIMPLE_DESC_REQ_NUMBER, ACTIVE_EP_REQ_NUMBER, MATCH_DESC_REQ_NUMBER, ADDR_REQUEST_SINGLE_NUMBER, ADDR_REQUEST_EXTENDED_NUMBER}
use Rattle.zdo_requests.specs.Requests.{nwk_addr_req_in, ieee_addr_req_in, addr_of_interest_req_in, simple_desc_req_in, match_desc_req_in}
use Rattle.zdo_requests.specs.declared.descriptor.NwkAddrReq.{NwkAddrReq}
use Rattle.zdo_requests.specs.declared.descriptor.IeeeAddrReq.{IeeeAddrReq}
use Rattle.zdo_requests.specs.declared.descriptor.AddrOfInterestReq.{AddrOfInterestReq}
use Rattle.zdo_requests.specs.declared.descriptor.SimpleDescReq.{SimpleDescReq}
use Rattle.zdo_requests.specs.declared.descriptor.MatchDescReq.{MatchDescReq}
use Rattle.zdo_replies.specs.Replies.{node_desc_rsp, power_desc_rsp, descriptor_rsp_error, list_rsp, empty_rsp, match_desc_rsp_error, addr_rsp, addr_rsp_single}
use Rattle.zdo_device.specs.Tables.{Pools, used}
use Rattle.zdo_device.specs.declared.descriptor.DeviceDescriptorConfig.{DeviceDescriptorConfig}
use Rattle.zdo_matching.specs.Matching.{wanted, match_list}
use Rattle.zdo_device_rsp.specs.TableReplies.{active_rsp_of, simple_rsp_of}
use Rattle.zdo_discovery.specs.Host.{Host, Asked, resolved}

-- ---- addresses

-- a request about us, whose addresses are these, by its type: single, extended, and any other is INV_REQUESTTYPE with our two
-- addresses
unfoldable pub our_address : IeeeAddress → ShortAddress → ℕ → ℕ → Outcome (List ℕ)
our_address long short seq type =
    cond (eqb type ADDR_REQUEST_SINGLE_NUMBER) (addr_rsp seq long short false)
    (cond (eqb type ADDR_REQUEST_EXTENDED_NUMBER) (addr_rsp seq long short true)
    (addr_rsp_single seq INV_REQUESTTYPE long short))

-- 2.4.4.2.1; about another device: DEVICE_NOT_FOUND, the address asked for, and the other all ones
unfoldable pub on_nwk_addr : IeeeAddress → ShortAddress → NwkAddrReq → Outcome (List ℕ)
on_nwk_addr long short q =
    cond (same_ieee q.ieee_addr long)
    (our_address long short q.seq q.request_type)
    (addr_rsp_single q.seq DEVICE_NOT_FOUND q.ieee_addr (short_of 0xFFFF))

-- 2.4.4.2.2; about another device the same
unfoldable pub on_ieee_addr : IeeeAddress → ShortAddress → IeeeAddrReq → Outcome (List ℕ)
on_ieee_addr long short q =
    cond (same_short q.nwk_addr_of_interest short)
    (our_address long short q.seq q.request_type)
    (addr_rsp_single q.seq DEVICE_NOT_FOUND (ieee_of 0xFFFF_FFFF_FFFF_FFFF) q.nwk_addr_of_interest)

-- ---- descriptors and lists

-- the status for another short address: DEVICE_NOT_FOUND from a router or coordinator, INV_REQUESTTYPE from any other type. A
-- reserved type is neither, whatever it is cut to.
unfoldable pub not_ours : LogicalType → ℕ
not_ours Coordinator = DEVICE_NOT_FOUND
not_ours Router = DEVICE_NOT_FOUND
not_ours EndDevice = INV_REQUESTTYPE
not_ours (Reserved n) = INV_REQUESTTYPE

-- what a device of a type and a short address replies to a request about an address: what it has to say where that is its own, and
-- else an error with that status
unfoldable pub about : LogicalType → ShortAddress → ShortAddress → Outcome (List ℕ) → (ℕ → Outcome (List ℕ)) → Outcome (List ℕ)
about type own address ours error = cond (same_short address own) ours (error (not_ours type))

-- 2.4.4.2.3
unfoldable pub on_node : NodeDescriptorConfig → ShortAddress → AddrOfInterestReq → Outcome (List ℕ)
on_node node own q =
    let address = q.nwk_addr_of_interest in
    about node.logical_type own address (node_desc_rsp q.seq address node) (λ status. descriptor_rsp_error q.seq status address)

-- 2.4.4.2.4
unfoldable pub on_power : LogicalType → PowerDescriptorConfig → ShortAddress → AddrOfInterestReq → Outcome (List ℕ)
on_power type power own q =
    let address = q.nwk_addr_of_interest in
    about type own address (power_desc_rsp q.seq address power) (λ status. descriptor_rsp_error q.seq status address)

-- 2.4.4.2.5
unfoldable pub on_simple : Pools → DeviceDescriptorConfig → ShortAddress → SimpleDescReq → Outcome (List ℕ)
on_simple pools device own q =
    let address = q.nwk_addr_of_interest in
    about device.node.logical_type own address (simple_rsp_of q.seq address pools device q.endpoint) (λ status. empty_rsp q.seq status address)

-- 2.4.4.2.6
unfoldable pub on_active : DeviceDescriptorConfig → ShortAddress → AddrOfInterestReq → Outcome (List ℕ)
on_active device own q =
    let address = q.nwk_addr_of_interest in
    about device.node.logical_type own address (active_rsp_of q.seq address (used device)) (λ status. empty_rsp q.seq status address)

-- 2.4.4.2.7; the list of a match reply is whole, and its error form has no address
unfoldable pub on_match : LogicalType → List Endpoint → ShortAddress → List ℕ → MatchDescReq → Outcome (List ℕ)
on_match type endpoints own payload q =
    let address = q.nwk_addr_of_interest in
    about type own address (list_rsp q.seq address (match_list (wanted q payload) endpoints)) (λ status. match_desc_rsp_error q.seq status)

-- ---- by the cluster

-- refusal 2: a cluster that is no discovery request's
unfoldable pub discovery : Host → ℕ → List ℕ → Outcome (List ℕ)
discovery h cluster payload =
    let device = h.device in
    let type = device.node.logical_type in
    let own = h.nwk_addr in
    cond (eqb cluster NWK_ADDR_REQ_NUMBER) (and_then (nwk_addr_req_in payload) (on_nwk_addr h.ieee_addr own))
    (cond (eqb cluster IEEE_ADDR_REQ_NUMBER) (and_then (ieee_addr_req_in payload) (on_ieee_addr h.ieee_addr own))
    (cond (eqb cluster NODE_DESC_REQ_NUMBER) (and_then (addr_of_interest_req_in payload) (on_node device.node own))
    (cond (eqb cluster POWER_DESC_REQ_NUMBER) (and_then (addr_of_interest_req_in payload) (on_power type device.power own))
    (cond (eqb cluster SIMPLE_DESC_REQ_NUMBER) (and_then (simple_desc_req_in payload) (on_simple h.pools device own))
    (cond (eqb cluster ACTIVE_EP_REQ_NUMBER) (and_then (addr_of_interest_req_in payload) (on_active device own))
    (cond (eqb cluster MATCH_DESC_REQ_NUMBER) (and_then (match_desc_req_in payload) (on_match type (resolved h) own payload))
    (refusal 2)))))))

-- the reply, or refusal 5 where there is no room for it
unfoldable pub discovered : Host → Asked → Outcome (List ℕ)
discovered h a = fitted a.room (discovery h a.cluster a.payload)
