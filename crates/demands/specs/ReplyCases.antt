-- Cases of the replies: each with the bytes that document 01 gives it, and each error form. Bytes of different fields differ, so
-- that order, width and place show. What the definitions say stands on one side, and literals on the other (`Case`).
use Rattle.std.specs.Prelude.{true, false, List, [], ◌∷◌}
use Rattle.zigbee_types.specs.Outcome.{answer}
use Rattle.zigbee_types.specs.Addresses.{ieee_of, short_of}
use Rattle.zigbee_types.specs.declared.IeeeAddress.{IeeeAddress}
use Rattle.zigbee_types.specs.declared.ShortAddress.{ShortAddress}
use Rattle.node_descriptor.specs.declared.LogicalType.TheVariants as type
use Rattle.simple_descriptor.specs.SimpleDescriptor.{endpoint_with}
use Rattle.zdo_replies.specs.Replies.{node_desc_rsp, power_desc_rsp, descriptor_rsp_error, list_rsp, empty_rsp, match_desc_rsp_error, described_rsp, addr_rsp_single, addr_rsp_extended, addr_rsp, status_rsp}
use Rattle.our_device.specs.OurDevice.{our_power}
use Rattle.demands.specs.Cases.{Case, node_of}

-- an address of interest
abbrev pub a_short : ShortAddress
a_short = short_of 0xA2A1

-- an IEEE address
abbrev pub an_ieee : IeeeAddress
an_ieee = ieee_of 0xB8B7_B6B5_B4B3_B2B1

-- node, power, and an error of either
unfoldable pub DescriptorReplies : Case
DescriptorReplies =
    record {
      says = node_desc_rsp 0x91 a_short (node_of type.Router) ∷ power_desc_rsp 0x91 a_short our_power ∷ descriptor_rsp_error 0x91 0x81 a_short ∷ [];
      expected =
          answer (0x91 ∷ 0x00 ∷ 0xA1 ∷ 0xA2 ∷ 0x09 ∷ 0x40 ∷ 0x80 ∷ 0xCD ∷ 0xAB ∷ 0x52 ∷ 0x80 ∷ 0x00 ∷ 0x00 ∷ 0x2C ∷ 0x81 ∷ 0x00 ∷ 0x00 ∷ [])
          ∷ answer (0x91 ∷ 0x00 ∷ 0xA1 ∷ 0xA2 ∷ 0x42 ∷ 0x84 ∷ [])
          ∷ answer (0x91 ∷ 0x81 ∷ 0xA1 ∷ 0xA2 ∷ [])
          ∷ [];
    }

-- a list of none and of two; an error of active or simple, and one of match
unfoldable pub ListReplies : Case
ListReplies =
    record {
      says =
          list_rsp 0x91 a_short []
          ∷ list_rsp 0x91 a_short (0xF0 ∷ 0x01 ∷ [])
          ∷ empty_rsp 0x91 0x83 a_short
          ∷ match_desc_rsp_error 0x91 0x81
          ∷ [];
      expected =
          answer (0x91 ∷ 0x00 ∷ 0xA1 ∷ 0xA2 ∷ 0x00 ∷ [])
          ∷ answer (0x91 ∷ 0x00 ∷ 0xA1 ∷ 0xA2 ∷ 0x02 ∷ 0xF0 ∷ 0x01 ∷ [])
          ∷ answer (0x91 ∷ 0x83 ∷ 0xA1 ∷ 0xA2 ∷ 0x00 ∷ [])
          ∷ answer (0x91 ∷ 0x81 ∷ 0x00 ∷ [])
          ∷ [];
    }

-- an endpoint of two inputs and an output, and one of no clusters; each with version 0x2D
unfoldable pub SimpleReplies : Case
SimpleReplies =
    record {
      says =
          described_rsp 0x91 a_short (endpoint_with 0xF0 0xB2B1 0xC2C1 0x2D (0xD2D1 ∷ 0xD4D3 ∷ []) (0xE2E1 ∷ []))
          ∷ described_rsp 0x91 a_short (endpoint_with 0xF0 0xB2B1 0xC2C1 0x2D [] [])
          ∷ [];
      expected =
          answer (0x91 ∷ 0x00 ∷ 0xA1 ∷ 0xA2 ∷ 0x0E ∷ 0xF0 ∷ 0xB1 ∷ 0xB2 ∷ 0xC1 ∷ 0xC2 ∷ 0x0D ∷ 0x02 ∷ 0xD1 ∷ 0xD2 ∷ 0xD3 ∷ 0xD4 ∷ 0x01 ∷ 0xE1 ∷ 0xE2 ∷ [])
          ∷ answer (0x91 ∷ 0x00 ∷ 0xA1 ∷ 0xA2 ∷ 0x08 ∷ 0xF0 ∷ 0xB1 ∷ 0xB2 ∷ 0xC1 ∷ 0xC2 ∷ 0x0D ∷ 0x00 ∷ 0x00 ∷ [])
          ∷ [];
    }

-- single, extended, and an error; then of three children those from index 1 on, and those from index 4 on, of which there are none
-- (docs/DECISIONS.md: document 01 has no children)
unfoldable pub AddressReplies : Case
AddressReplies =
    let children : List ShortAddress = short_of 0xC2C1 ∷ short_of 0xC4C3 ∷ short_of 0xC6C5 ∷ [] in
    record {
      says =
          addr_rsp 0x91 an_ieee a_short false
          ∷ addr_rsp 0x91 an_ieee a_short true
          ∷ addr_rsp_single 0x91 0x81 an_ieee a_short
          ∷ addr_rsp_extended 0x91 an_ieee a_short 1 children
          ∷ addr_rsp_extended 0x91 an_ieee a_short 4 children
          ∷ [];
      expected =
          answer (0x91 ∷ 0x00 ∷ 0xB1 ∷ 0xB2 ∷ 0xB3 ∷ 0xB4 ∷ 0xB5 ∷ 0xB6 ∷ 0xB7 ∷ 0xB8 ∷ 0xA1 ∷ 0xA2 ∷ [])
          ∷ answer (0x91 ∷ 0x00 ∷ 0xB1 ∷ 0xB2 ∷ 0xB3 ∷ 0xB4 ∷ 0xB5 ∷ 0xB6 ∷ 0xB7 ∷ 0xB8 ∷ 0xA1 ∷ 0xA2 ∷ 0x00 ∷ 0x00 ∷ [])
          ∷ answer (0x91 ∷ 0x81 ∷ 0xB1 ∷ 0xB2 ∷ 0xB3 ∷ 0xB4 ∷ 0xB5 ∷ 0xB6 ∷ 0xB7 ∷ 0xB8 ∷ 0xA1 ∷ 0xA2 ∷ [])
          ∷ answer (0x91 ∷ 0x00 ∷ 0xB1 ∷ 0xB2 ∷ 0xB3 ∷ 0xB4 ∷ 0xB5 ∷ 0xB6 ∷ 0xB7 ∷ 0xB8 ∷ 0xA1 ∷ 0xA2 ∷ 0x03 ∷ 0x01 ∷ 0xC3 ∷ 0xC4 ∷ 0xC5 ∷ 0xC6 ∷ [])
          ∷ answer (0x91 ∷ 0x00 ∷ 0xB1 ∷ 0xB2 ∷ 0xB3 ∷ 0xB4 ∷ 0xB5 ∷ 0xB6 ∷ 0xB7 ∷ 0xB8 ∷ 0xA1 ∷ 0xA2 ∷ 0x03 ∷ 0x04 ∷ [])
          ∷ [];
    }

-- bind, unbind or leave: a success and an error
unfoldable pub StatusReplies : Case
StatusReplies =
    record {
      says = status_rsp 0x91 0x00 ∷ status_rsp 0x91 0x8D ∷ [];
      expected = answer (0x91 ∷ 0x00 ∷ []) ∷ answer (0x91 ∷ 0x8D ∷ []) ∷ [];
    }
