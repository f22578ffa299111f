-- Any request: tables that are not good, and then by the cluster. Assumes nothing.
use Rattle.std.specs.Prelude.{Result, Ok, Err}
use Rattle.std.specs.Result.{IsErr, IsErrAnd}
use Prim.Native.Nat.{ℕ, ◌^◌, ◌<◌}
use native.Mathlib.Omega.{arith}
use mathlib.Core.Path.{◌≡◌, refl, sym, ◌∙◌}
use mathlib.Core.Bool.{Bool, true, false}
use mathlib.Core.List.{List, [], ◌∷◌}
use lib.ListN.{length}
use borrow.Author.Tests.{ne_eqb}
use Rattle.zigbee_types.specs.Outcome.{Outcome, answer, refusal, and_then, mapped, fitted, Wrote}
use Rattle.zigbee_types.specs.Answers.{says}
use Rattle.zigbee_types.specs.Refusals.{refusal_number}
use Rattle.zigbee_types.specs.declared.IeeeAddress.{IeeeAddress}
use Rattle.zigbee_types.specs.declared.Refusal.{Refusal}
use Rattle.zigbee_types.specs.declared.Refusal.TheVariants.{BadTables}
use Rattle.zigbee_types.proofs.Named.{Unnamed}
use Rattle.zigbee_types.proofs.Outcomes.{wrote_answer}
use Rattle.zigbee_types.proofs.Passed.{passed}
use Rattle.aps_binding_table.specs.Table.{good_sizes, good_table}
use Rattle.aps_binding_table.specs.declared.binding.BindingTable.{BindingTable}
use Rattle.zdo_requests.specs.Clusters.{BIND_REQ_NUMBER, UNBIND_REQ_NUMBER, MGMT_LEAVE_REQ_NUMBER, reply_cluster}
use Rattle.zdo_requests.specs.Requests.{bind_req_in, mgmt_leave_req_in}
use Rattle.zdo_requests.specs.declared.descriptor.BindReq.{BindReq}
use Rattle.zdo_requests.specs.declared.descriptor.MgmtLeaveReq.{MgmtLeaveReq}
use Rattle.zdo_device.specs.Tables.{good_device}
use Rattle.zdo_device.specs.declared.descriptor.DeviceDescriptorConfig.{DeviceDescriptorConfig}
use Rattle.zdo_discovery.specs.Host.{Host, asking, good_host}
use Rattle.zdo_discovery.specs.Discovery.{discovery, discovered}
use Rattle.zdo_discovery.proofs.ByCluster.{answered_low}
use Rattle.zdo_dispatcher.specs.Answers.{reply, leave, Told, replied, leaving, told_of, table_after, buffer_after, response_says, source_status, link_answer, on_link, by_cluster, answered, Dispatched}
use Rattle.zdo_dispatcher.specs.declared.dispatcher.Link.{Link}
use Rattle.zdo_dispatcher.specs.declared.dispatcher.Link.TheVariants.{Bind, Unbind}
use Rattle.zdo_dispatcher.specs.declared.dispatcher.Response.{Response}
use Rattle.zdo_dispatcher.specs.declared.dispatcher.Response.TheVariants as response
use Rattle.zdo_dispatcher.proofs.Told.{dispatched_refused, dispatched_reply, kept}

-- ---- what was parsed

module _ (payload : List ℕ) where
  module _ (l : Link) (d : DeviceDescriptorConfig) (long : IeeeAddress) (t : BindingTable) (cluster : ℕ) (out : List ℕ) {r : Result BindReq Refusal} (said : says r ≡ bind_req_in payload) where
    -- a bind or an unbind request
    pub link_read :
        {q : BindReq}
        → r ≡ Ok q
        → and_then (bind_req_in payload) (on_link l d long t (asking cluster payload out)) ≡ link_answer l (source_status d long q) t q cluster (length out)
    unfolding says and_then on_link asking
    link_read is = rw (← said, is)

    -- none
    pub link_unread : {why : Refusal} → r ≡ Err why → and_then (bind_req_in payload) (on_link l d long t (asking cluster payload out)) ≡ refusal (refusal_number why)
    unfolding says and_then
    link_unread is = rw (← said, is)

  -- a leave request
  pub leave_read : (q : MgmtLeaveReq) → says (Ok q) ≡ mgmt_leave_req_in payload → response_says (Ok (response.Leave q)) ≡ mapped leaving (mgmt_leave_req_in payload)
  unfolding says mapped response_says
  leave_read q said = rw (← said)

  -- none
  pub leave_unread :
      (r : Result Response Refusal) (why : Refusal)
      → says {A = MgmtLeaveReq} (Err why) ≡ mgmt_leave_req_in payload
      → IsErr r × IsErrAnd r (λ e. e ≡ why)
      → response_says r ≡ mapped leaving (mgmt_leave_req_in payload)
  unfolding says mapped response_says
  leave_unread r why said p = rw (← said, passed r why p)

-- ---- what is left

-- a leave leaves table and buffer as they were, and so does a refusal
left : (t : BindingTable) (before : List ℕ) (o : Outcome MgmtLeaveReq) {told : Outcome Told} → told ≡ mapped leaving o → Dispatched (mapped leave o) t before told t before
unfolding mapped told_of table_after buffer_after
left t before (answer q) e = record { said = e; table = refl; buffer = refl }
left t before (refusal n) e = record { said = e; table = refl; buffer = refl }

-- ---- the tables

module _ (h : Host) (t : BindingTable) (cluster : ℕ) (payload out : List ℕ) where
  -- those of the device are bad
  pub bad_device : good_device h.pools h.device ≡ false → Dispatched (answered h t (asking cluster payload out)) t out (response_says (Err BadTables)) t out
  unfolding answered good_host response_says
  bad_device bad = rw bad (dispatched_refused BadTables t out 1 refl)

  -- they are good, and the binding table is bad
  pub bad_table :
      good_device h.pools h.device ≡ true
      → good_table t ≡ false
      → Dispatched (answered h t (asking cluster payload out)) t out (response_says (Err BadTables)) t out
  unfolding answered good_host response_says
  bad_table good bad = rw (good, bad) (dispatched_refused BadTables t out 1 refl)

-- the binding table was found bad, or good
pub table_found : (t : BindingTable) {x y : Bool} → x ≡ good_sizes t.count t.limit → x ≡ y → good_table t ≡ y
unfolding good_table
table_found t is found = sym is ∙ found

-- ---- by the cluster, of good tables

-- the cluster of a bind or an unbind
abbrev pub link_cluster : Link → ℕ
link_cluster Bind = BIND_REQ_NUMBER
link_cluster Unbind = UNBIND_REQ_NUMBER

module _ (h : Host) (t : BindingTable) (device : good_device h.pools h.device ≡ true) (table : good_table t ≡ true) (cluster : ℕ) (payload out : List ℕ) where
  by : answered h t (asking cluster payload out) ≡ by_cluster h t (asking cluster payload out)
  unfolding answered good_host
  by = rw (device, table)

  pub at_link :
      (l : Link)
      → cluster ≡ link_cluster l
      → and_then (bind_req_in payload) (on_link l h.device h.ieee_addr t (asking cluster payload out)) ≡ answered h t (asking cluster payload out)
  unfolding by_cluster asking
  at_link Bind e = rw (by, e)
  at_link Unbind e = rw (by, e)

  pub at_leave :
      {told : Outcome Told}
      → cluster ≡ MGMT_LEAVE_REQ_NUMBER
      → told ≡ mapped leaving (mgmt_leave_req_in payload)
      → Dispatched (answered h t (asking cluster payload out)) t out told t out
  unfolding by_cluster asking
  at_leave e f = rw (by, e) (left t out (mgmt_leave_req_in payload) f)

  pub at_discovery :
      {told : Outcome Told} {after : List ℕ}
      → Unnamed Unit (λ k. k) cluster (BIND_REQ_NUMBER ∷ UNBIND_REQ_NUMBER ∷ MGMT_LEAVE_REQ_NUMBER ∷ [])
      → ((u : BindingTable) → Dispatched (mapped (λ bytes. reply (reply_cluster cluster) bytes u) (discovered h (asking cluster payload out))) u out told u after)
      → Dispatched (answered h t (asking cluster payload out)) t out told t after
  unfolding by_cluster asking
  at_discovery (((none, bind), unbind), leaves) w =
      rw (by, ne_eqb cluster BIND_REQ_NUMBER bind, ne_eqb cluster UNBIND_REQ_NUMBER unbind, ne_eqb cluster MGMT_LEAVE_REQ_NUMBER leaves) (w t)

-- ---- discovery

-- what is told of a reply, whatever the binding table
pub discovery_told :
    (h : Host) (cluster : ℕ) (payload out : List ℕ) {after : List ℕ} {n : Outcome ℕ} {told : Outcome Told}
    → Wrote (discovery h cluster payload) out n after
    → told ≡ mapped (replied (reply_cluster cluster)) n
    → (t : BindingTable)
    → Dispatched (mapped (λ bytes. reply (reply_cluster cluster) bytes t) (discovered h (asking cluster payload out))) t out told t after
unfolding discovered asking
discovery_told h cluster payload out w e t =
    dispatched_reply (reply_cluster cluster) (discovery h cluster payload) t w e (kept (reply_cluster cluster) t (fitted (length out) (discovery h cluster payload)))

-- the cluster of a discovery request that is answered is low
pub low_cluster :
    (h : Host) (cluster : ℕ) (payload : List ℕ) (w : Result ℕ Refusal) {out after : List ℕ}
    → Wrote (discovery h cluster payload) out (says w) after
    → (n : ℕ)
    → says w ≡ answer n
    → cluster < 2 ^ 15
low_cluster h cluster payload w {out} {after} wrote n e =
    let (bytes, is, there) = wrote_answer (discovery h cluster payload) {before = out} {after = after} (rw e at wrote) in
    let low = answered_low h cluster payload is in
    omega arith
