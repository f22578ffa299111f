-- A request that was taken as far as it goes without the binding table: what the functions that `dispatch` is made of promise.
use Rattle.std.specs.Prelude.{ℕ, ◌^◌, ◌<◌, ◌≤◌, ◌≡◌, true, List, length, Result, Ok, Err}
use Rattle.zigbee_types.specs.Outcome.{Outcome, and_then}
use Rattle.zigbee_types.specs.Statuses.{SUCCESS}
use Rattle.zigbee_types.specs.declared.IeeeAddress.{IeeeAddress}
use Rattle.zigbee_types.specs.declared.Refusal.{Refusal}
use Rattle.aps_binding_table.specs.Table.{good_table}
use Rattle.aps_binding_table.specs.declared.binding.BindingTable.{BindingTable}
use Rattle.zdo_dispatcher.specs.Answers.{Answer, response_says, link_answer, on_link, answered, Dispatched}
use Rattle.zdo_requests.specs.Requests.{bind_req_in}
use Rattle.zdo_requests.specs.declared.descriptor.BindReq.{BindReq}
use Rattle.zdo_device.specs.declared.descriptor.DeviceDescriptorConfig.{DeviceDescriptorConfig}
use Rattle.zdo_discovery.specs.Host.{Host, Asked}
use Rattle.zdo_dispatcher.specs.declared.dispatcher.Link.{Link}
use Rattle.zdo_dispatcher.specs.declared.dispatcher.Response.{Response}
use Rattle.zdo_dispatcher.specs.declared.dispatcher.Taken.{Taken}
use Rattle.zdo_dispatcher.specs.declared.dispatcher.Taken.TheVariants.{Answered, Asks}

-- what a bind or an unbind request comes to, with each table
unfoldable pub link_with : Link → DeviceDescriptorConfig → IeeeAddress → Asked → BindingTable → Outcome Answer
link_with link device long a t = and_then (bind_req_in a.payload) (on_link link device long t a)

-- what any request comes to, with each table
unfoldable pub answered_with : Host → Asked → BindingTable → Outcome Answer
answered_with h a t = answered h t a

-- an entry of ours is still to be bound or unbound: nothing was written, and there is room for the reply
pub record Linking (o : BindingTable → Outcome Answer) (link : Link) (q : BindReq) (cluster : ℕ) (before after : List ℕ) : Type 0 where
  pub low : cluster < 2 ^ 15
  pub room : 2 ≤ length before
  pub stays : after ≡ before
  pub comes : (t : BindingTable) → good_table t ≡ true → o t ≡ link_answer link SUCCESS t q cluster (length before)

-- it was answered or refused, and leaves every good table of 32 places as it is
unfoldable pub Kept : (BindingTable → Outcome Answer) → Result Response Refusal → List ℕ → List ℕ → Type 0
Kept o r before after = (t : BindingTable) → length t.entries ≡ 32 → good_table t ≡ true → Dispatched (o t) t before (response_says r) t after

-- that, or it asks for an entry to be bound or unbound
unfoldable pub AtTaken : (BindingTable → Outcome Answer) → ℕ → Result Taken Refusal → List ℕ → List ℕ → Type 0
AtTaken o cluster (Ok (Answered r)) before after = Kept o (Ok r) before after
AtTaken o cluster (Ok (Asks link q)) before after = Linking o link q cluster before after
AtTaken o cluster (Err why) before after = Kept o (Err why) before after

-- a request that comes to o with each table, and was taken so far (a record, so that a proof can find it by its parts)
pub record TakenTo (o : BindingTable → Outcome Answer) (cluster : ℕ) (s : Result Taken Refusal) (before after : List ℕ) : Type 0 where
  pub at : AtTaken o cluster s before after
