-- What a request does to a good binding table: nothing, whatever the table, or a bind or an unbind. Assumes nothing.
use Prim.Native.Nat.{ℕ, ◌%◌}
use mathlib.Core.Path.{◌≡◌, refl}
use mathlib.Core.Bool.{Bool, true, false, ◌&&◌, cond, and-false}
use mathlib.Core.List.{List, [], ◌∷◌}
use lib.Dec.{eqb, leb}
use borrow.Author.Tests.{eqb-true}
use Rattle.zigbee_types.specs.Outcome.{Outcome, answer, refusal, and_then, mapped, fitted}
use Rattle.zigbee_types.specs.Bytes.{le}
use Rattle.zigbee_types.specs.Layout.{laid, size}
use Rattle.zigbee_types.specs.Statuses.{SUCCESS, NOT_SUPPORTED, INVALID_EP}
use Rattle.zigbee_types.specs.Addresses.{same_ieee}
use Rattle.zigbee_types.specs.declared.IeeeAddress.{IeeeAddress}
use Rattle.zigbee_types.proofs.Layouts.{laid_counted}
use Rattle.aps_binding.specs.declared.binding.Binding.{Binding}
use Rattle.aps_binding_table.specs.Held.{Step}
use Rattle.aps_binding_table.specs.Table.{good_table, held, placed}
use Rattle.aps_binding_table.specs.declared.binding.BindingTable.{BindingTable}
use Rattle.aps_binding_table.proofs.Good.{Good, good_tested, count_inside}
use Rattle.aps_binding_table.proofs.Places.{held_stays}
use Rattle.zdo_requests.specs.Clusters.{BIND_REQ_NUMBER, UNBIND_REQ_NUMBER, MGMT_LEAVE_REQ_NUMBER, reply_cluster}
use Rattle.zdo_requests.specs.Requests.{bind_req_in, binding_of, mgmt_leave_req_in}
use Rattle.zdo_requests.specs.declared.descriptor.BindReq.{BindReq}
use Rattle.zdo_requests.specs.declared.descriptor.MgmtLeaveReq.{MgmtLeaveReq}
use Rattle.zdo_replies.specs.Replies.{status_fields, status_rsp}
use Rattle.zdo_device.specs.Tables.{supports_endpoint}
use Rattle.zdo_device.specs.declared.descriptor.DeviceDescriptorConfig.{DeviceDescriptorConfig}
use Rattle.zdo_discovery.specs.Host.{Host, Asked, good_host}
use Rattle.zdo_discovery.specs.Discovery.{discovered}
use Rattle.zdo_dispatcher.specs.Answers.{Answer, reply, leave, answered, by_cluster, on_link, link_answer, link_step, step_of, source_status}
use Rattle.demands.specs.Calls.{Call, bind, unbind}
use Rattle.demands.specs.Rules.{says_success}
use Rattle.demands.proofs.Calls.{stepped}

-- ---- kinds of requests

-- an answer without its table
pub data Plain : Type 0 where
  replies : ℕ → List ℕ → Plain
  leaves : MgmtLeaveReq → Plain

-- the answer that leaves this table as it is
unfoldable pub keeping : BindingTable → Plain → Answer
keeping t (replies cluster bytes) = reply cluster bytes t
keeping t (leaves q) = leave q

-- the bytes of a reply
unfoldable pub plain_bytes : Outcome Plain → List ℕ
plain_bytes (answer (replies cluster bytes)) = bytes
plain_bytes (answer (leaves q)) = []
plain_bytes (refusal n) = []

-- the cluster of a call's request, and the entry that it names
abbrev pub cluster_of : Call → ℕ
cluster_of (bind b) = BIND_REQ_NUMBER
cluster_of (unbind b) = UNBIND_REQ_NUMBER

abbrev pub entry_of : Call → Binding
entry_of (bind b) = b
entry_of (unbind b) = b

-- the reply to a call on a table
unfoldable pub linked : ℕ → ℕ → BindingTable → Step → Answer
linked cluster seq t s = reply (reply_cluster cluster) (laid (status_fields seq s.status)) (placed t s.entries)

-- a request does nothing to any good table, and is then no bind and no unbind that succeeds; or it is a call, and names its entry
pub data Kind (h : Host) (a : Asked) : Type 0 where
  idle :
      (o : Outcome Plain)
      → ((eqb a.cluster BIND_REQ_NUMBER && says_success (plain_bytes o)) ≡ false)
      → ((eqb a.cluster UNBIND_REQ_NUMBER && says_success (plain_bytes o)) ≡ false)
      → ((t : BindingTable) → Good t → answered h t a ≡ mapped (keeping t) o)
      → Kind h a
  call :
      (c : Call) (seq : ℕ)
      → a.cluster ≡ cluster_of c
      → mapped binding_of (bind_req_in a.payload) ≡ answer (entry_of c)
      → ((t : BindingTable) → Good t → answered h t a ≡ answer (linked a.cluster seq t (stepped t c)))
      → Kind h a

-- ---- bind and unbind

-- what a request that was read comes to, by its source and the call that it is
unfoldable answered_as : ℕ → Call → BindingTable → BindReq → Asked → Outcome Answer
answered_as source c t q a =
    let s = link_step source (held t) (stepped t c) in
    mapped (λ bytes. reply (reply_cluster a.cluster) bytes (placed t s.entries)) (fitted a.room (status_rsp q.seq s.status))

-- the bytes of a status reply
pub status_bytes : (seq status : ℕ) → laid (status_fields seq status) ≡ seq % 256 ∷ status % 256 ∷ []
unfolding laid status_fields le
status_bytes seq status = refl

-- it fits where there are two bytes
status_fits : (seq status room : ℕ) → fitted room (status_rsp seq status) ≡ cond (leb 2 room) (answer (laid (status_fields seq status))) (refusal 5)
unfolding fitted status_rsp status_fields size
status_fits seq status room = rw (laid_counted (status_fields seq status))

-- a source that is not ours is told by a status that is not SUCCESS
denied : (d : DeviceDescriptorConfig) (long : IeeeAddress) (q : BindReq) → eqb (source_status d long q) SUCCESS ≡ false → eqb (source_status d long q % 256) SUCCESS ≡ false
unfolding source_status
denied d long q = go (same_ieee q.src_address long) (supports_endpoint d q.src_endpoint)
  where
    go :
        (p s : Bool)
        → eqb (cond p (cond s SUCCESS INVALID_EP) NOT_SUPPORTED) SUCCESS ≡ false
        → eqb (cond p (cond s SUCCESS INVALID_EP) NOT_SUPPORTED % 256) SUCCESS ≡ false
    go true true e = e
    go true false e = refl
    go false s e = refl

module _ (h : Host) (a : Asked) where
  -- what does nothing and does not succeed
  failing : (o : Outcome Plain) → says_success (plain_bytes o) ≡ false → ((t : BindingTable) → Good t → answered h t a ≡ mapped (keeping t) o) → Kind h a
  failing o e is = idle o (rw (e, and-false)) (rw (e, and-false)) is

  -- a bind or an unbind request that was read, by its source and the room
  link_kind :
      (c : Call) (q : BindReq) (source : ℕ)
      → a.cluster ≡ cluster_of c
      → mapped binding_of (bind_req_in a.payload) ≡ answer (entry_of c)
      → (eqb source SUCCESS ≡ false → eqb (source % 256) SUCCESS ≡ false)
      → ((t : BindingTable) → Good t → answered h t a ≡ answered_as source c t q a)
      → Kind h a
  unfolding answered_as link_step mapped keeping plain_bytes says_success linked
  link_kind c q source cluster named other is = go (leb 2 a.room) (eqb source SUCCESS) refl refl
    where
      go : (fits ours : Bool) → leb 2 a.room ≡ fits → eqb source SUCCESS ≡ ours → Kind h a
      go false ours e f = failing (refusal 5) refl (λ t g. rw (is t g, status_fits, e))
      go true true e f = call c q.seq cluster named (λ t g. rw (is t g, f, status_fits, e))
      go true false e f =
          failing (answer (replies (reply_cluster a.cluster) (laid (status_fields q.seq source)))) (rw (status_bytes, other f))
          (λ t g. rw (is t g, f, status_fits, e, held_stays t (count_inside g)))

  -- any bind or unbind request
  read_kind :
      (make : Binding → Call)
      → ((b : Binding) → a.cluster ≡ cluster_of (make b))
      → ((b : Binding) → entry_of (make b) ≡ b)
      → ((t : BindingTable) → Good t → answered h t a ≡ and_then (bind_req_in a.payload) (λ q. answered_as (source_status h.device h.ieee_addr q) (make (binding_of q)) t q a))
      → Kind h a
  unfolding and_then mapped plain_bytes says_success
  read_kind make cluster entry is = go (bind_req_in a.payload) refl
    where
      go : (o : Outcome BindReq) → bind_req_in a.payload ≡ o → Kind h a
      go (refusal n) e = failing (refusal n) refl (λ t g. rw (is t g, e))
      go (answer q) e =
          let b = binding_of q in
          link_kind (make b) q (source_status h.device h.ieee_addr q) (cluster b) (rw (e, entry b)) (denied h.device h.ieee_addr q)
          (λ t g. rw (is t g, e))

-- ---- any request

-- a leave request
left_plain : (o : Outcome MgmtLeaveReq) (t : BindingTable) → mapped leave o ≡ mapped (keeping t) (mapped leaves o)
unfolding mapped keeping
left_plain (answer q) t = refl
left_plain (refusal n) t = refl

-- discovery
pub found_plain : (cluster : ℕ) (o : Outcome (List ℕ)) (t : BindingTable) → mapped (λ bytes. reply cluster bytes t) o ≡ mapped (keeping t) (mapped (replies cluster) o)
unfolding mapped keeping
found_plain cluster (answer bytes) t = refl
found_plain cluster (refusal n) t = refl

module _ (h : Host) (a : Asked) where
  -- by the cluster
  cluster_kind : ((t : BindingTable) → Good t → answered h t a ≡ by_cluster h t a) → Kind h a
  unfolding by_cluster on_link link_answer step_of stepped answered_as
  cluster_kind is = go (eqb a.cluster BIND_REQ_NUMBER) (eqb a.cluster UNBIND_REQ_NUMBER) (eqb a.cluster MGMT_LEAVE_REQ_NUMBER) refl refl refl
    where
      go :
          (b u l : Bool)
          → eqb a.cluster BIND_REQ_NUMBER ≡ b
          → eqb a.cluster UNBIND_REQ_NUMBER ≡ u
          → eqb a.cluster MGMT_LEAVE_REQ_NUMBER ≡ l
          → Kind h a
      go true u l e f g = read_kind h a bind (λ b. eqb-true a.cluster BIND_REQ_NUMBER e) (λ b. refl) (λ t s. rw (is t s, e))
      go false true l e f g = read_kind h a unbind (λ b. eqb-true a.cluster UNBIND_REQ_NUMBER f) (λ b. refl) (λ t s. rw (is t s, e, f))
      go false false true e f g =
          idle (mapped leaves (mgmt_leave_req_in a.payload)) (rw e) (rw f) (λ t s. rw (is t s, e, f, g) (left_plain (mgmt_leave_req_in a.payload) t))
      go false false false e f g =
          idle (mapped (replies (reply_cluster a.cluster)) (discovered h a)) (rw e) (rw f)
          (λ t s. rw (is t s, e, f, g) (found_plain (reply_cluster a.cluster) (discovered h a) t))

  -- whatever the host
  pub kind : Kind h a
  unfolding answered mapped plain_bytes says_success
  kind = go (good_host h) refl
    where
      go : (good : Bool) → good_host h ≡ good → Kind h a
      go true e = cluster_kind (λ t g. rw (e, good_tested g))
      go false e = failing h a (refusal 1) refl (λ t g. rw e)

  -- a table that is not good: refusal 1
  pub bad_refused : (t : BindingTable) → good_table t ≡ false → answered h t a ≡ refusal 1
  unfolding answered
  bad_refused t bad = rw (bad, and-false)
