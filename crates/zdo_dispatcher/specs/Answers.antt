-- The dispatcher: what any request comes to, and what is left of it (document 01, "Binding and dispatch").
use Rattle.std.specs.Prelude.{ℕ, ◌≡◌, ◌&&◌, cond, List, eqb, length, Result, Ok, Err}
use Rattle.zigbee_types.specs.Outcome.{Outcome, answer, refusal, and_then, mapped, fitted, written}
use Rattle.zigbee_types.specs.Addresses.{same_ieee}
use Rattle.zigbee_types.specs.Refusals.{refusal_number}
use Rattle.zigbee_types.specs.Statuses.{SUCCESS, INVALID_EP, NOT_SUPPORTED}
use Rattle.zigbee_types.specs.declared.IeeeAddress.{IeeeAddress}
use Rattle.zigbee_types.specs.declared.Refusal.{Refusal}
use Rattle.aps_binding_table.specs.Held.{Step, bound, unbound}
use Rattle.aps_binding_table.specs.Table.{good_table, held, placed}
use Rattle.aps_binding.specs.declared.binding.Binding.{Binding}
use Rattle.aps_binding_table.specs.declared.binding.BindingTable.{BindingTable}
use Rattle.zdo_requests.specs.Clusters.{BIND_REQ_NUMBER, UNBIND_REQ_NUMBER, MGMT_LEAVE_REQ_NUMBER, reply_cluster}
use Rattle.zdo_requests.specs.Requests.{bind_req_in, binding_of, mgmt_leave_req_in}
use Rattle.zdo_requests.specs.declared.descriptor.BindReq.{BindReq}
use Rattle.zdo_requests.specs.declared.descriptor.MgmtLeaveReq.{MgmtLeaveReq}
use Rattle.zdo_replies.specs.Replies.{status_rsp}
use Rattle.zdo_device.specs.Tables.{supports_endpoint}
use Rattle.zdo_device.specs.declared.descriptor.DeviceDescriptorConfig.{DeviceDescriptorConfig}
use Rattle.zdo_discovery.specs.Host.{Host, Asked, good_host}
use Rattle.zdo_discovery.specs.Discovery.{discovered}
use Rattle.zdo_dispatcher.specs.declared.dispatcher.Link.{Link}
use Rattle.zdo_dispatcher.specs.declared.dispatcher.Link.TheVariants.{Bind, Unbind}
use Rattle.zdo_dispatcher.specs.declared.dispatcher.Response.{Response}
use Rattle.zdo_dispatcher.specs.declared.dispatcher.Response.TheVariants as response

-- a reply: its cluster, its bytes, and the binding table after it; or a leave request, which is handed to the host
pub data Answer : Type 0 where
  reply : ℕ → List ℕ → BindingTable → Answer
  leave : MgmtLeaveReq → Answer

-- ---- bind and unbind

-- what a bind or an unbind does with the entries that a table holds
unfoldable pub step_of : Link → BindingTable → Binding → Step
step_of Bind t b = bound t.limit (held t) b
step_of Unbind t b = unbound (held t) b

-- is the source ours? Another address is NOT_SUPPORTED; then another endpoint is INVALID_EP
unfoldable pub source_status : DeviceDescriptorConfig → IeeeAddress → BindReq → ℕ
source_status device long q =
    cond (same_ieee q.src_address long) (cond (supports_endpoint device q.src_endpoint) SUCCESS INVALID_EP) NOT_SUPPORTED

-- where the source is ours, the step is made; otherwise the entries stay
unfoldable pub link_step : ℕ → List Binding → Step → Step
link_step source xs s = cond (eqb source SUCCESS) s (record { status = source; entries = xs })

-- the reply, where the source has this status, and the table after it; refusal 5 before anything is stored
unfoldable pub link_answer : Link → ℕ → BindingTable → BindReq → ℕ → ℕ → Outcome Answer
link_answer link source t q cluster room =
    let s = link_step source (held t) (step_of link t (binding_of q)) in
    mapped (λ bytes. reply (reply_cluster cluster) bytes (placed t s.entries)) (fitted room (status_rsp q.seq s.status))

-- a bind or an unbind request
unfoldable pub on_link : Link → DeviceDescriptorConfig → IeeeAddress → BindingTable → Asked → BindReq → Outcome Answer
on_link link device long t a q = link_answer link (source_status device long q) t q a.cluster a.room

-- ---- any request

-- by the cluster, where the tables are good: bind, unbind, leave, or discovery, which leaves the binding table as it is
unfoldable pub by_cluster : Host → BindingTable → Asked → Outcome Answer
by_cluster h t a =
    cond (eqb a.cluster BIND_REQ_NUMBER) (and_then (bind_req_in a.payload) (on_link Bind h.device h.ieee_addr t a))
    (cond (eqb a.cluster UNBIND_REQ_NUMBER) (and_then (bind_req_in a.payload) (on_link Unbind h.device h.ieee_addr t a))
    (cond (eqb a.cluster MGMT_LEAVE_REQ_NUMBER) (mapped leave (mgmt_leave_req_in a.payload))
    (mapped (λ bytes. reply (reply_cluster a.cluster) bytes t) (discovered h a))))

-- refusal 1 comes first: device tables or a binding table that are not good
unfoldable pub answered : Host → BindingTable → Asked → Outcome Answer
answered h t a = cond (good_host h && good_table t) (by_cluster h t a) (refusal 1)

-- ---- what is left

-- the binding table after it: a reply brings it; a leave and a refusal leave it
unfoldable pub table_after : BindingTable → Outcome Answer → BindingTable
table_after t (answer (reply cluster bytes u)) = u
table_after t (answer (leave q)) = t
table_after t (refusal n) = t

-- the buffer after it: a reply is written; a leave and a refusal leave it
unfoldable pub buffer_after : List ℕ → Outcome Answer → List ℕ
buffer_after before (answer (reply cluster bytes u)) = written before (answer bytes)
buffer_after before (answer (leave q)) = before
buffer_after before (refusal n) = before

-- what is told to the caller
pub data Told : Type 0 where
  replied : ℕ → ℕ → Told
  leaving : MgmtLeaveReq → Told

-- of a reply its cluster and length are told, of a leave its request
unfoldable pub told_of : Answer → Told
told_of (reply cluster bytes u) = replied cluster (length bytes)
told_of (leave q) = leaving q

-- what the answer of `dispatch` says: a reply by its cluster and length, a leave by its request, and a refusal by its number
unfoldable pub response_says : Result Response Refusal → Outcome Told
response_says (Ok (response.Reply cluster n)) = answer (replied cluster n)
response_says (Ok (response.Leave q)) = answer (leaving q)
response_says (Err why) = refusal (refusal_number why)

-- a call of the dispatcher that comes to o: what is told, the table after, and the buffer after
pub record Dispatched (o : Outcome Answer) (t : BindingTable) (before : List ℕ) (told : Outcome Told) (u : BindingTable) (after : List ℕ) : Type 0 where
  pub said : told ≡ mapped told_of o
  pub table : u ≡ table_after t o
  pub buffer : after ≡ buffer_after before o
