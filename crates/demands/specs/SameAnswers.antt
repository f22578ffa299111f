-- "The same answers over a lent run of endpoint records" (document 01, "Device tables and sizes"), as a statement: a function over a
-- lent run answers, and leaves in the buffer, what its form by value does over a device that holds the run; refusals too. The outcomes
-- are those of the contracts. A term of it stands in proofs/.
use Rattle.std.specs.Prelude.{ℕ, ◌≤◌, ◌≡◌, List, ◌++◌, length, take, Result}
use Rattle.zigbee_types.specs.declared.Refusal.{Refusal}
use Rattle.zigbee_types.specs.Outcome.{Wrote, Begun}
use Rattle.zigbee_types.specs.Answers.{says}
use Rattle.zigbee_types.specs.declared.ShortAddress.{ShortAddress}
use Rattle.zdo_requests.specs.declared.descriptor.MatchDescReq.{MatchDescReq}
use Rattle.zdo_device.specs.Tables.{Pools, used, good_records, good_device}
use Rattle.zdo_device.specs.declared.descriptor.EndpointDescriptor.{EndpointDescriptor}
use Rattle.zdo_device.specs.declared.descriptor.DeviceDescriptorConfig.{DeviceDescriptorConfig}
use Rattle.zdo_matching.specs.Matching.{matched_records, matching_endpoints}
use Rattle.zdo_matching.specs.Answers.{matching_says}
use Rattle.zdo_device_rsp.specs.TableReplies.{active_records, active_ep_rsp}
use Rattle.zdo_matching.specs.declared.descriptor.Matched.{Matched}

-- a device holds a run: its count says how many records that has, and those in use are the run, or its first 32
pub record Holds (d : DeviceDescriptorConfig) (run : List EndpointDescriptor) : Type 0 where
  pub counted : d.endpoint_count ≡ length run
  pub held : used d ≡ take 32 run

-- a device with a run in place of its records; where the run is shorter than 32, its own first records stand behind the run, unused
unfoldable pub holding : DeviceDescriptorConfig → List EndpointDescriptor → DeviceDescriptorConfig
holding d run = record { node = d.node; power = d.power; endpoints = take 32 (run ++ d.endpoints); endpoint_count = length run }

pub record SameAnswers : Type 0 where
  -- run and device are good together, and come to the same list and to the same reply, whatever pools, request and address
  pub good : (d : DeviceDescriptorConfig) (run : List EndpointDescriptor) (p : Pools) → Holds d run → good_records p run ≡ good_device p d
  pub found :
      (d : DeviceDescriptorConfig) (run : List EndpointDescriptor) (p : Pools) (q : MatchDescReq) (payload : List ℕ)
      → Holds d run
      → matched_records p run q payload ≡ matching_endpoints p d q payload
  pub listed :
      (d : DeviceDescriptorConfig) (run : List EndpointDescriptor) (seq : ℕ) (address : ShortAddress)
      → Holds d run
      → active_records seq address run ≡ active_ep_rsp seq address d
  -- so, of any buffer, the two forms of matching give one answer and leave one buffer
  pub matching :
      (d : DeviceDescriptorConfig) (run : List EndpointDescriptor) (p : Pools) (q : MatchDescReq) (payload before : List ℕ) (r s : Result Matched Refusal) (after later : List ℕ)
      → Holds d run
      → Begun (matched_records p run q payload) before (matching_says r) after
      → Begun (matching_endpoints p d q payload) before (matching_says s) later
      → (r ≡ s) × (after ≡ later)
  -- and so do those of the active list
  pub active :
      (d : DeviceDescriptorConfig) (run : List EndpointDescriptor) (seq : ℕ) (address : ShortAddress) (before : List ℕ) (r s : Result ℕ Refusal) (after later : List ℕ)
      → Holds d run
      → Wrote (active_records seq address run) before (says r) after
      → Wrote (active_ep_rsp seq address d) before (says s) later
      → (r ≡ s) × (after ≡ later)
  -- each run is held by some device, whose array has 32 places; and a device whose count is at most 32 holds its records in use
  pub each :
      (d : DeviceDescriptorConfig) (run : List EndpointDescriptor)
      → length d.endpoints ≡ 32
      → Holds (holding d run) run × (length (holding d run).endpoints ≡ 32)
  pub own : (d : DeviceDescriptorConfig) → length d.endpoints ≡ 32 → d.endpoint_count ≤ 32 → Holds d (used d)
