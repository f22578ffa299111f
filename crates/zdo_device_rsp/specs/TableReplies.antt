-- The replies that are made from endpoint records, a device's or a lent run (document 01, "Replies").
use Rattle.std.specs.Prelude.{ℕ, ◌+◌, cond, List, [], ◌∷◌, ◌++◌, map, leb, length}
use Rattle.zigbee_types.specs.Outcome.{Outcome, answer, refusal}
use Rattle.zigbee_types.specs.Layout.{byte, laid}
use Rattle.zigbee_types.specs.Lists.{option}
use Rattle.zigbee_types.specs.Statuses.{SUCCESS, NOT_ACTIVE}
use Rattle.zigbee_types.specs.declared.ShortAddress.{ShortAddress}
use Rattle.zdo_replies.specs.Replies.{header, list_rsp, empty_rsp, described_rsp}
use Rattle.zdo_device.specs.Tables.{Pools, used, endpoint_record, good_device, endpoint_of}
use Rattle.zdo_device.specs.declared.descriptor.EndpointDescriptor.{EndpointDescriptor}
use Rattle.zdo_device.specs.declared.descriptor.DeviceDescriptorConfig.{DeviceDescriptorConfig}

-- the numbers of a run of records, in table order
unfoldable pub numbers : List EndpointDescriptor → List ℕ
numbers records = map (λ e. e.endpoint) records

-- 2.4.4.2.6: the reply that lists them
unfoldable pub active_rsp_of : ℕ → ShortAddress → List EndpointDescriptor → Outcome (List ℕ)
active_rsp_of seq address records = list_rsp seq address (numbers records)

-- what stands before the list: header and count. The reply is refused before anything is written: refusal 1 for more than 32 records,
-- and then refusal 5 where the whole reply, list and all, is longer than the room.
unfoldable pub active_begun : ℕ → ShortAddress → ℕ → ℕ → Outcome (List ℕ)
active_begun seq address count room =
    cond (leb count 32) (cond (leb (5 + count) room) (answer (laid (header seq SUCCESS address ++ byte count ∷ []))) (refusal 5)) (refusal 1)

-- the active list over a run of records: refusal 1 for more than 32. Where the records point is not looked at.
unfoldable pub active_records : ℕ → ShortAddress → List EndpointDescriptor → Outcome (List ℕ)
active_records seq address records = cond (leb (length records) 32) (active_rsp_of seq address records) (refusal 1)

-- `active_ep_rsp`: refusal 1 for a count above 32. Where the records point is not looked at.
unfoldable pub active_ep_rsp : ℕ → ShortAddress → DeviceDescriptorConfig → Outcome (List ℕ)
active_ep_rsp seq address d = cond (leb d.endpoint_count 32) (active_rsp_of seq address (used d)) (refusal 1)

-- 2.4.4.2.5: the simple descriptor of the first record with the number; NOT_ACTIVE and length 0 where there is none
unfoldable pub simple_rsp_of : ℕ → ShortAddress → Pools → DeviceDescriptorConfig → ℕ → Outcome (List ℕ)
simple_rsp_of seq address p d n = option (empty_rsp seq NOT_ACTIVE address) (λ e. described_rsp seq address (endpoint_of p e)) (endpoint_record d n)

-- `simple_desc_rsp`: refusal 1 for tables that are not good
unfoldable pub simple_desc_rsp : ℕ → ShortAddress → Pools → DeviceDescriptorConfig → ℕ → Outcome (List ℕ)
simple_desc_rsp seq address p d n = cond (good_device p d) (simple_rsp_of seq address p d n) (refusal 1)
