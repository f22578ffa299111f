-- The replies (document 01, "Replies"; 2.4.4), said without a buffer: `fitted` and `written` say what a buffer makes of them.
use Rattle.std.specs.Prelude.{ℕ, min, Bool, true, false, List, [], ◌∷◌, ◌++◌, map, length, drop}
use Rattle.zigbee_types.specs.Outcome.{Outcome, answer, and_then}
use Rattle.zigbee_types.specs.Layout.{Field, byte, laid}
use Rattle.zigbee_types.specs.Addresses.{short, ieee}
use Rattle.zigbee_types.specs.Statuses.{SUCCESS}
use Rattle.zigbee_types.specs.declared.IeeeAddress.{IeeeAddress}
use Rattle.zigbee_types.specs.declared.ShortAddress.{ShortAddress}
use Rattle.node_descriptor.specs.NodeDescriptor.{node_descriptor_of}
use Rattle.node_power_descriptor.specs.PowerDescriptor.{power_descriptor_of}
use Rattle.simple_descriptor.specs.SimpleDescriptor.{Endpoint, simple_written}
use Rattle.node_descriptor.specs.declared.descriptor.NodeDescriptorConfig.{NodeDescriptorConfig}
use Rattle.node_power_descriptor.specs.declared.descriptor.PowerDescriptorConfig.{PowerDescriptorConfig}

-- most replies begin so: seq, status, the address of interest
unfoldable pub header : ℕ → ℕ → ShortAddress → List Field
header seq status address = byte seq ∷ byte status ∷ short address ∷ []

-- ---- node and power

-- 2.4.4.2.3: the node descriptor from byte 4 on; 17 bytes
unfoldable pub node_desc_rsp : ℕ → ShortAddress → NodeDescriptorConfig → Outcome (List ℕ)
node_desc_rsp seq address n = answer (laid (header seq SUCCESS address ++ node_descriptor_of n))

-- 2.4.4.2.4: the power descriptor from byte 4 on; 6 bytes
unfoldable pub power_desc_rsp : ℕ → ShortAddress → PowerDescriptorConfig → Outcome (List ℕ)
power_desc_rsp seq address p = answer (laid (header seq SUCCESS address ++ power_descriptor_of p))

-- an error of either: 4 bytes, no descriptor
unfoldable pub descriptor_rsp_error : ℕ → ℕ → ShortAddress → Outcome (List ℕ)
descriptor_rsp_error seq status address = answer (laid (header seq status address))

-- ---- active and match

-- how many endpoints, and their numbers. Above 255 the count says 255 and all of them are written (document 01).
unfoldable pub endpoint_list : List ℕ → List Field
endpoint_list endpoints = byte (min (length endpoints) 255) ∷ map byte endpoints

-- 2.4.4.2.6 and 2.4.4.2.7: the list behind the header; 5 bytes and one for each endpoint
unfoldable pub list_rsp : ℕ → ShortAddress → List ℕ → Outcome (List ℕ)
list_rsp seq address endpoints = answer (laid (header seq SUCCESS address ++ endpoint_list endpoints))

-- a zero in place of the list or the descriptor, with a status: an error of active or simple, and NOT_ACTIVE; 5 bytes
unfoldable pub empty_rsp : ℕ → ℕ → ShortAddress → Outcome (List ℕ)
empty_rsp seq status address = answer (laid (header seq status address ++ byte 0 ∷ []))

-- seq, status, zero
unfoldable pub match_error_fields : ℕ → ℕ → List Field
match_error_fields seq status = byte seq ∷ byte status ∷ byte 0 ∷ []

-- an error of match has no address; 3 bytes
unfoldable pub match_desc_rsp_error : ℕ → ℕ → Outcome (List ℕ)
match_desc_rsp_error seq status = answer (laid (match_error_fields seq status))

-- ---- simple

-- 2.4.4.2.5: the descriptor's length, and the descriptor; or refusal 4
unfoldable pub described_rsp : ℕ → ShortAddress → Endpoint → Outcome (List ℕ)
described_rsp seq address e =
    and_then (simple_written e) (λ descriptor. answer (laid (header seq SUCCESS address ++ byte (length descriptor) ∷ []) ++ descriptor))

-- ---- addresses

-- 2.4.4.2.1 and 2.4.4.2.2: seq, status, IEEE address, short address; 12 bytes, on an error too
unfoldable pub addr_header : ℕ → ℕ → IeeeAddress → ShortAddress → List Field
addr_header seq status long address = byte seq ∷ byte status ∷ ieee long ∷ short address ∷ []

-- a single reply, or an error
unfoldable pub addr_rsp_single : ℕ → ℕ → IeeeAddress → ShortAddress → Outcome (List ℕ)
addr_rsp_single seq status long address = answer (laid (addr_header seq status long address))

-- an extended reply: the number of children, the index asked for, and the children from there on
unfoldable pub addr_rsp_extended : ℕ → IeeeAddress → ShortAddress → ℕ → List ShortAddress → Outcome (List ℕ)
addr_rsp_extended seq long address start children =
    answer (laid (addr_header seq SUCCESS long address ++ byte (length children) ∷ byte start ∷ map short (drop start children)))

-- `addr_rsp`: is it extended? A device without children adds two zero bytes.
unfoldable pub addr_rsp : ℕ → IeeeAddress → ShortAddress → Bool → Outcome (List ℕ)
addr_rsp seq long address false = addr_rsp_single seq SUCCESS long address
addr_rsp seq long address true = addr_rsp_extended seq long address 0 []

-- ---- bind, unbind and leave

-- seq, status
unfoldable pub status_fields : ℕ → ℕ → List Field
status_fields seq status = byte seq ∷ byte status ∷ []

-- 2.4.4.3.2, 2.4.4.3.3 and 2.4.4.4.5; 2 bytes
unfoldable pub status_rsp : ℕ → ℕ → Outcome (List ℕ)
status_rsp seq status = answer (laid (status_fields seq status))
