-- Discovery by the cluster. Assumes nothing.
use Rattle.std.specs.Prelude.{Err}
use Prim.Native.Nat.{ℕ, ◌<◌}
use native.Mathlib.Omega.{arith}
use mathlib.Core.Path.{◌≡◌, refl}
use mathlib.Core.Bool.{Bool, true, false, cond}
use mathlib.Core.List.{List}
use lib.Dec.{eqb}
use borrow.Author.Tests.{eqb-true, ne_eqb}
use Rattle.zigbee_types.specs.Outcome.{Outcome, answer, and_then, Wrote}
use Rattle.zigbee_types.specs.Answers.{says}
use Rattle.zigbee_types.specs.declared.Refusal.TheVariants.{UnknownCluster}
use Rattle.zigbee_types.proofs.Outcomes.{refused, wrote_refused}
use Rattle.zdo_requests.specs.Clusters.{NWK_ADDR_REQ_NUMBER, IEEE_ADDR_REQ_NUMBER, NODE_DESC_REQ_NUMBER, POWER_DESC_REQ_NUMBER, SIMPLE_DESC_REQ_NUMBER, ACTIVE_EP_REQ_NUMBER, MATCH_DESC_REQ_NUMBER}
use Rattle.zdo_requests.specs.Requests.{nwk_addr_req_in, ieee_addr_req_in, addr_of_interest_req_in, simple_desc_req_in, match_desc_req_in}
use Rattle.zdo_device.specs.Tables.{used, resolved_in}
use Rattle.zdo_discovery.specs.Host.{Host, resolved}
use Rattle.zdo_discovery.specs.Discovery.{on_nwk_addr, on_ieee_addr, on_node, on_power, on_simple, on_active, on_match, discovery}

module _ (h : Host) (cluster : ℕ) (payload : List ℕ) {before after : List ℕ} {told : Outcome ℕ} where
  pub by_nwk_addr :
      cluster ≡ NWK_ADDR_REQ_NUMBER
      → Wrote (and_then (nwk_addr_req_in payload) (on_nwk_addr h.ieee_addr h.nwk_addr)) before told after
      → Wrote (discovery h cluster payload) before told after
  unfolding discovery
  by_nwk_addr e w = rw e w

  pub by_ieee_addr :
      cluster ≡ IEEE_ADDR_REQ_NUMBER
      → Wrote (and_then (ieee_addr_req_in payload) (on_ieee_addr h.ieee_addr h.nwk_addr)) before told after
      → Wrote (discovery h cluster payload) before told after
  unfolding discovery
  by_ieee_addr e w = rw e w

  pub by_node :
      cluster ≡ NODE_DESC_REQ_NUMBER
      → Wrote (and_then (addr_of_interest_req_in payload) (on_node h.device.node h.nwk_addr)) before told after
      → Wrote (discovery h cluster payload) before told after
  unfolding discovery
  by_node e w = rw e w

  pub by_power :
      cluster ≡ POWER_DESC_REQ_NUMBER
      → Wrote (and_then (addr_of_interest_req_in payload) (on_power h.device.node.logical_type h.device.power h.nwk_addr)) before told after
      → Wrote (discovery h cluster payload) before told after
  unfolding discovery
  by_power e w = rw e w

  pub by_simple :
      cluster ≡ SIMPLE_DESC_REQ_NUMBER
      → Wrote (and_then (simple_desc_req_in payload) (on_simple h.pools h.device h.nwk_addr)) before told after
      → Wrote (discovery h cluster payload) before told after
  unfolding discovery
  by_simple e w = rw e w

  pub by_active :
      cluster ≡ ACTIVE_EP_REQ_NUMBER
      → Wrote (and_then (addr_of_interest_req_in payload) (on_active h.device h.nwk_addr)) before told after
      → Wrote (discovery h cluster payload) before told after
  unfolding discovery
  by_active e w = rw e w

  pub by_match :
      cluster ≡ MATCH_DESC_REQ_NUMBER
      → Wrote (and_then (match_desc_req_in payload) (on_match h.device.node.logical_type (resolved_in h.pools (used h.device)) h.nwk_addr payload)) before told after
      → Wrote (discovery h cluster payload) before told after
  unfolding discovery resolved
  by_match e w = rw e w

-- any other: refusal 2
pub by_none :
    (h : Host) (cluster : ℕ) (payload before : List ℕ)
    → (cluster ≡ 0 → ⊥)
    → (cluster ≡ 1 → ⊥)
    → (cluster ≡ 2 → ⊥)
    → (cluster ≡ 3 → ⊥)
    → (cluster ≡ 4 → ⊥)
    → (cluster ≡ 5 → ⊥)
    → (cluster ≡ 6 → ⊥)
    → Wrote (discovery h cluster payload) before (says (Err UnknownCluster)) before
unfolding discovery says
by_none h cluster payload before a b c d e f g =
    rw (ne_eqb cluster 0 a, ne_eqb cluster 1 b, ne_eqb cluster 2 c, ne_eqb cluster 3 d, ne_eqb cluster 4 e, ne_eqb cluster 5 f, ne_eqb cluster 6 g)
    (wrote_refused 2 before)

-- ---- where there is a reply

-- an answer comes from the one case or from the others
one_or_others :
    {A P : Type 0} (cluster key : ℕ) (one others : Outcome A) {a : A}
    → (cluster ≡ key → P)
    → (others ≡ answer a → P)
    → cond (eqb cluster key) one others ≡ answer a
    → P
one_or_others {A} {P} cluster key one others {a} f g e = go (eqb cluster key) refl e
  where
    go : (t : Bool) → eqb cluster key ≡ t → cond t one others ≡ answer a → P
    go true is e = f (eqb-true cluster key is)
    go false is e = g e

-- so a discovery request that is answered has one of the lowest clusters
pub answered_low : (h : Host) (cluster : ℕ) (payload : List ℕ) {bytes : List ℕ} → discovery h cluster payload ≡ answer bytes → cluster < 7
unfolding discovery
answered_low h cluster payload =
    one_or_others cluster 0 _ _ (λ e. omega arith)
    (one_or_others cluster 1 _ _ (λ e. omega arith)
    (one_or_others cluster 2 _ _ (λ e. omega arith)
    (one_or_others cluster 3 _ _ (λ e. omega arith)
    (one_or_others cluster 4 _ _ (λ e. omega arith)
    (one_or_others cluster 5 _ _ (λ e. omega arith)
    (one_or_others cluster 6 _ _ (λ e. omega arith) (λ e. absurd (refused e))))))))
