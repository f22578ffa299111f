-- Bind and unbind: whether the source is ours, and what the table then does. Assumes nothing.
use Rattle.std.specs.Prelude.{Result, Ok, Err, ⊤}
use Prim.Native.Nat.{ℕ, ◌≤◌, ◌<◌}
use mathlib.Core.Path.{◌≡◌, refl, sym, ◌∙◌}
use mathlib.Core.Bool.{Bool, true, false, not}
use mathlib.Core.List.{List}
use lib.ListN.{length}
use borrow.Author.Tests.{ne_eqb, le-leb, lt-leb}
use Rattle.zigbee_types.specs.Outcome.{Outcome, answer, and_then, mapped, fitted, Wrote}
use Rattle.zigbee_types.specs.Answers.{says}
use Rattle.zigbee_types.specs.Refusals.{refusal_number}
use Rattle.zigbee_types.specs.Addresses.{same_ieee}
use Rattle.zigbee_types.specs.Statuses.{SUCCESS, INVALID_EP, NOT_SUPPORTED, NO_ENTRY, TABLE_FULL}
use Rattle.zigbee_types.specs.Layout.{laid, size}
use Rattle.zigbee_types.specs.declared.IeeeAddress.{IeeeAddress}
use Rattle.zigbee_types.specs.declared.Refusal.{Refusal}
use Rattle.zigbee_types.specs.declared.Refusal.TheVariants.{ShortBuffer}
use Rattle.zigbee_types.proofs.Layouts.{laid_counted}
use Rattle.zigbee_types.proofs.Outcomes.{wrote_refused}
use Rattle.zigbee_types.proofs.Scans.{said_no, said_yes}
use Rattle.aps_binding.specs.declared.binding.Binding.{Binding}
use Rattle.aps_binding_table.specs.Answers.{link_says}
use Rattle.aps_binding_table.specs.Held.{Step}
use Rattle.aps_binding_table.specs.Table.{good_table, held, placed, on_good, create_binding_link, remove_binding_link, table_left, Leaves}
use Rattle.aps_binding_table.specs.declared.binding.BindingTable.{BindingTable}
use Rattle.aps_binding_table.specs.declared.binding.BindingError.{BindingError}
use Rattle.aps_binding_table.specs.declared.binding.BindingError.TheVariants.{InvalidBinding, TableFull, Refused}
use Rattle.aps_binding_table.proofs.Good.{good_table_lem, count_inside}
use Rattle.aps_binding_table.proofs.Places.{held_stays}
use Rattle.zdo_requests.specs.Clusters.{reply_cluster}
use Rattle.zdo_requests.specs.Requests.{binding_of}
use Rattle.zdo_requests.specs.declared.descriptor.BindReq.{BindReq}
use Rattle.zdo_replies.specs.Replies.{status_fields, status_rsp}
use Rattle.zdo_device.specs.Tables.{supports_endpoint}
use Rattle.zdo_device.specs.declared.descriptor.DeviceDescriptorConfig.{DeviceDescriptorConfig}
use Rattle.zdo_dispatcher.specs.Answers.{reply, Told, replied, table_after, response_says, step_of, source_status, link_step, link_answer, Dispatched}
use Rattle.zdo_dispatcher.specs.declared.dispatcher.Link.{Link}
use Rattle.zdo_dispatcher.specs.declared.dispatcher.Link.TheVariants.{Bind, Unbind}
use Rattle.zdo_dispatcher.proofs.Told.{dispatched_refused, dispatched_reply, kept}

-- ---- the source

module _ (d : DeviceDescriptorConfig) (long : IeeeAddress) (q : BindReq) where
  module _ {u : Bool} (is : u ≡ not (same_ieee q.src_address long)) where
    pub other_address : u ≡ true → NOT_SUPPORTED ≡ source_status d long q
    unfolding source_status
    other_address other = rw (said_no refl (sym is ∙ other))

    module _ (same : u ≡ false) {t : Bool} (has : t ≡ supports_endpoint d q.src_endpoint) where
      pub other_endpoint : not t ≡ true → INVALID_EP ≡ source_status d long q
      unfolding source_status
      other_endpoint denied = rw (said_yes refl (sym is ∙ same), said_no has denied)

      pub source_ours : not t ≡ false → SUCCESS ≡ source_status d long q
      unfolding source_status
      source_ours granted = rw (said_yes refl (sym is ∙ same), said_yes has granted)

-- ---- the table

module _ (l : Link) (t : BindingTable) (b : Binding) {u : BindingTable} {told : Outcome ℕ} where
  pub links_bind : l ≡ Bind → Leaves (create_binding_link t b) t told u → Leaves (on_good t (step_of l t b)) t told u
  unfolding create_binding_link step_of
  links_bind e h = rw e h

  pub links_unbind : l ≡ Unbind → Leaves (remove_binding_link t b) t told u → Leaves (on_good t (step_of l t b)) t told u
  unfolding remove_binding_link step_of
  links_unbind e h = rw e h

-- ---- the status that is told

module _ (seq : ℕ) (s : Result ⊤ BindingError) {before after : List ℕ} {told : Outcome ℕ} where
  pub tells_success : s ≡ Ok tt → Wrote (status_rsp seq SUCCESS) before told after → Wrote (and_then (link_says s) (status_rsp seq)) before told after
  unfolding link_says and_then
  tells_success e w = rw e w

  module _ {error : BindingError} (e : s ≡ Err error) where
    pub tells_none : error ≡ InvalidBinding → Wrote (status_rsp seq NO_ENTRY) before told after → Wrote (and_then (link_says s) (status_rsp seq)) before told after
    unfolding link_says and_then
    tells_none is w = rw (e, is) w

    pub tells_full : error ≡ TableFull → Wrote (status_rsp seq TABLE_FULL) before told after → Wrote (and_then (link_says s) (status_rsp seq)) before told after
    unfolding link_says and_then
    tells_full is w = rw (e, is) w

pub tells_refused :
    (seq : ℕ) (s : Result ⊤ BindingError) {error : BindingError} (why : Refusal) (before : List ℕ)
    → s ≡ Err error
    → error ≡ Refused why
    → Wrote (and_then (link_says s) (status_rsp seq)) before (says (Err why)) before
unfolding link_says and_then says
tells_refused seq s why before e is = rw (e, is) (wrote_refused (refusal_number why) before)

-- ---- the reply

-- it has two bytes
status_long : (seq status : ℕ) → length (laid (status_fields seq status)) ≡ 2
unfolding status_fields size
status_long seq status = laid_counted (status_fields seq status)

-- so one with room brings its table
brings :
    (seq status cluster : ℕ) (t u : BindingTable) (out : List ℕ)
    → 2 ≤ length out
    → u ≡ table_after t (mapped (λ bytes. reply cluster bytes u) (fitted (length out) (status_rsp seq status)))
unfolding status_rsp fitted mapped table_after
brings seq status cluster t u out room =
    let fits : length (laid (status_fields seq status)) ≤ length out = rw status_long room in
    rw (le-leb _ _ fits)

module _ (l : Link) (source : ℕ) (t : BindingTable) (q : BindReq) (cluster : ℕ) (out : List ℕ) where
  -- too short a buffer: nothing is stored
  pub link_full :
      length out < 2
      → Dispatched (link_answer l source t q cluster (length out)) t out (response_says (Err ShortBuffer)) t out
  unfolding link_answer status_rsp fitted mapped response_says
  link_full h =
      let step = link_step source (held t) (step_of l t (binding_of q)) in
      let long : length out < length (laid (status_fields q.seq step.status)) = rw status_long h in
      rw (lt-leb _ _ long) (dispatched_refused ShortBuffer t out 5 refl)

  module _ {after : List ℕ} {n : Outcome ℕ} {told : Outcome Told} (is : told ≡ mapped (replied (reply_cluster cluster)) n) (good : good_table t ≡ true) where
    -- the source is not ours: the table stays
    pub link_denied :
        {code : ℕ}
        → length t.entries ≡ 32
        → code ≡ source
        → (code ≡ SUCCESS → ⊥)
        → Wrote (status_rsp q.seq source) out n after
        → Dispatched (link_answer l source t q cluster (length out)) t out told t after
    unfolding link_answer link_step
    link_denied long is-source other w =
        rw (ne_eqb source SUCCESS (λ e. other (is-source ∙ e)), held_stays t (count_inside (good_table_lem t long good)))
        (dispatched_reply (reply_cluster cluster) (status_rsp q.seq source) t w is (kept (reply_cluster cluster) t (fitted (length out) (status_rsp q.seq source))))

module _ (l : Link) (t : BindingTable) (q : BindReq) (cluster : ℕ) (out : List ℕ) {after : List ℕ} {n : Outcome ℕ} {told : Outcome Told} (room : 2 ≤ length out) (is : told ≡ mapped (replied (reply_cluster cluster)) n) (good : good_table t ≡ true) where
  -- the source is ours: the table makes a step
  stepped :
      (step : Step) {m : Outcome ℕ} {u : BindingTable}
      → Leaves (answer step) t m u
      → Wrote (and_then m (status_rsp q.seq)) out n after
      → Dispatched (mapped (λ bytes. reply (reply_cluster cluster) bytes (placed t step.entries)) (fitted (length out) (status_rsp q.seq step.status))) t out told u after
  unfolding mapped table_left and_then
  stepped step h w =
      let u = placed t step.entries in
      rw h.left
      (dispatched_reply (reply_cluster cluster) (status_rsp q.seq step.status) u (rw h.said at w) is (brings q.seq step.status (reply_cluster cluster) t u out room))

  pub link_made :
      {b : Binding} {m : Outcome ℕ} {u : BindingTable}
      → b ≡ binding_of q
      → Leaves (on_good t (step_of l t b)) t m u
      → Wrote (and_then m (status_rsp q.seq)) out n after
      → Dispatched (link_answer l SUCCESS t q cluster (length out)) t out told u after
  unfolding link_answer link_step on_good
  link_made named h w = stepped (step_of l t (binding_of q)) (rw (named, good) at h) w
