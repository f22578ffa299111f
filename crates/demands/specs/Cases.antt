-- What a case is, how it asks our device, and how it shows an outcome as numbers.
use Rattle.std.specs.Prelude.{ℕ, ◌+◌, true, false, List, [], ◌∷◌, ◌++◌, drop}
use Rattle.zigbee_types.specs.Outcome.{Outcome, answer, refusal, and_then}
use Rattle.node_descriptor.specs.declared.descriptor.NodeDescriptorConfig.{NodeDescriptorConfig}
use Rattle.node_power_descriptor.specs.declared.descriptor.PowerDescriptorConfig.{PowerDescriptorConfig}
use Rattle.node_descriptor.specs.declared.LogicalType.{LogicalType}
use Rattle.node_descriptor.specs.declared.LogicalType.TheVariants as type
use Rattle.power_names.specs.declared.CurrentPowerMode.{CurrentPowerMode}
use Rattle.power_names.specs.declared.CurrentPowerMode.TheVariants as mode
use Rattle.power_names.specs.declared.PowerSource.{PowerSource}
use Rattle.power_names.specs.declared.PowerSource.TheVariants as source
use Rattle.power_names.specs.declared.CurrentPowerSourceLevel.{CurrentPowerSourceLevel}
use Rattle.power_names.specs.declared.CurrentPowerSourceLevel.TheVariants as level
use Rattle.aps_binding_table.specs.Table.{empty_table}
use Rattle.aps_binding_table.specs.declared.binding.BindingTable.{BindingTable}
use Rattle.zdo_requests.specs.Requests.{match_desc_req_in}
use Rattle.zdo_matching.specs.Matching.{matching_endpoints}
use Rattle.zdo_discovery.specs.Host.{Host, Asked}
use Rattle.zdo_dispatcher.specs.Answers.{Answer, reply, leave, answered, table_after}
use Rattle.our_device.specs.OurDevice.{our_pools, our_device, ours}
use Rattle.demands.specs.Runs.{left}

-- what the definitions say; and what document 01 says, or where it is silent the Rust or docs/DECISIONS.md, as literals
pub record Case : Type 0 where
  pub says : List (Outcome (List ℕ))
  pub expected : List (Outcome (List ℕ))

-- ---- asking

-- a request, with a buffer of 128 bytes
abbrev pub asked : ℕ → List ℕ → Asked
asked cluster payload = record { cluster = cluster; payload = payload; room = 128 }

-- the list that a match request finds in our device
abbrev pub found : List ℕ → Outcome (List ℕ)
found payload = and_then (match_desc_req_in payload) (λ q. matching_endpoints our_pools our_device q payload)

-- ---- showing

-- a reply's cluster, then its bytes; nothing of a leave
abbrev pub heard : Outcome Answer → Outcome (List ℕ)
heard (answer (reply cluster bytes t)) = answer (cluster ∷ bytes)
heard (answer (leave q)) = answer []
heard (refusal n) = refusal n

-- what a reply to bind or unbind has behind its sequence number: the status
abbrev pub status_of : Outcome Answer → Outcome (List ℕ)
status_of (answer (reply cluster bytes t)) = answer (drop 1 bytes)
status_of (answer (leave q)) = answer []
status_of (refusal n) = refusal n

-- ---- asking the dispatcher

-- what a host replies to a request, with a binding table and a room
abbrev pub tried_on : Host → BindingTable → ℕ → List ℕ → ℕ → Outcome (List ℕ)
tried_on h t cluster payload room = heard (answered h t (record { cluster = cluster; payload = payload; room = room }))

-- what our device replies
abbrev pub tried : BindingTable → ℕ → List ℕ → ℕ → Outcome (List ℕ)
tried = tried_on ours

-- what it replies with an empty table and a buffer of 128 bytes
abbrev pub replies : ℕ → List ℕ → Outcome (List ℕ)
replies cluster payload = tried (empty_table 32) cluster payload 128

-- what a host comes to for requests, one after the other on one table
unfoldable pub run : Host → BindingTable → List Asked → List (Outcome Answer)
run h t [] = []
run h t (a ∷ rest) =
    let o = answered h t a in
    o ∷ run h (table_after t o) rest

-- the table that they leave
abbrev pub run_table : Host → BindingTable → List Asked → BindingTable
run_table h = left (λ t a. table_after t (answered h t a))

-- a binding table of zeros, with a limit and a count
abbrev pub counting : ℕ → ℕ → BindingTable
counting limit count = record { entries = (empty_table 32).entries; limit = limit; count = count }

-- ---- numbers with names, so that a reserved one is told from a named one: 256 is added to it

-- a logical type
abbrev pub type_shown : LogicalType → ℕ
type_shown type.Coordinator = 0
type_shown type.Router = 1
type_shown type.EndDevice = 2
type_shown (type.Reserved n) = 256 + n

-- a power mode
abbrev pub mode_shown : CurrentPowerMode → ℕ
mode_shown mode.Synchronized = 0
mode_shown mode.Periodically = 1
mode_shown mode.Stimulated = 2
mode_shown (mode.Reserved n) = 256 + n

-- a power source
abbrev pub source_shown : PowerSource → ℕ
source_shown source.ConstantMainPower = 1
source_shown source.RechargeableBattery = 2
source_shown source.DisposableBattery = 4
source_shown (source.Reserved n) = 256 + n

-- a power level
abbrev pub level_shown : CurrentPowerSourceLevel → ℕ
level_shown level.Critical = 0
level_shown level.OneThird = 4
level_shown level.TwoThirds = 8
level_shown level.Full = 12
level_shown (level.Reserved n) = 256 + n

-- the four fields of a power descriptor
abbrev pub power_shown : PowerDescriptorConfig → List ℕ
power_shown p =
    mode_shown p.current_power_mode
    ∷ p.available_power_sources
    ∷ source_shown p.current_power_source
    ∷ level_shown p.current_power_source_level
    ∷ []

-- ---- a node of any type

-- a node of a type, with its complex bit, a band of six bits and two different sizes
abbrev pub node_of : LogicalType → NodeDescriptorConfig
node_of t =
    record {
      logical_type = t;
      complex_descriptor_available = true;
      user_descriptor_available = false;
      frequency_band = 0x28;
      mac_capability_flags = 0x80;
      manufacturer_code = 0xABCD;
      maximum_buffer_size = 0x52;
      maximum_incoming_transfer_size = 0x0080;
      server_mask = 0x2C00;
      maximum_outgoing_transfer_size = 0x0081;
      descriptor_capability_field = 0;
    }

-- ---- requests to bind

-- seq, source address, endpoint and cluster of K10's bind request
abbrev pub bind_head : List ℕ
bind_head = 0x0A ∷ 0x08 ∷ 0x07 ∷ 0x06 ∷ 0x05 ∷ 0x04 ∷ 0x03 ∷ 0x02 ∷ 0x01 ∷ 0x01 ∷ 0x02 ∷ 0x04 ∷ []

-- K10's request, to group 0x0003
abbrev pub bind_a : List ℕ
bind_a = bind_head ++ 0x01 ∷ 0x03 ∷ 0x00 ∷ []

-- the same to group 0x0004
abbrev pub bind_b : List ℕ
bind_b = bind_head ++ 0x01 ∷ 0x04 ∷ 0x00 ∷ []

-- the same to endpoint 1 of a device
abbrev pub bind_c : List ℕ
bind_c = bind_head ++ 0x03 ∷ 0xF1 ∷ 0xF2 ∷ 0xF3 ∷ 0xF4 ∷ 0xF5 ∷ 0xF6 ∷ 0xF7 ∷ 0xF8 ∷ 0x01 ∷ []
