-- What the tests of a request and of a record come to. Assumes nothing.
use Prim.Native.Nat.{ℕ, ◌+◌, ◌-◌, ◌*◌, ◌/◌, ◌≤◌, ◌<◌}
use native.Mathlib.Omega.{arith}
use mathlib.Core.Path.{◌≡◌, refl, sym}
use mathlib.Core.Bool.{Bool, true, false, not, and-eq-true_iff}
use mathlib.Core.List.{List}
use lib.Dec.{leb}
use lib.ListN.{length}
use borrow.Author.Tests.{leb-true, leb-false, le-leb, lt-leb}
use Rattle.zigbee_types.specs.Layout.{behind, entries_at}
use Rattle.zigbee_types.specs.declared.Places.{Places}
use Rattle.zigbee_types.proofs.Scans.{said_no, said_yes}
use Rattle.zdo_requests.specs.declared.descriptor.MatchDescReq.{MatchDescReq}
use Rattle.zdo_device.specs.Tables.{Pools, endpoint_of, clusters_of}
use Rattle.zdo_device.specs.declared.descriptor.EndpointDescriptor.{EndpointDescriptor}
use Rattle.zdo_device.specs.declared.descriptor.Side.TheVariants.{Input, Output}
use Rattle.zdo_matching.specs.Matching.{wanted, profile_matches, shared, matches, good_places}

-- ---- places

-- a list lies within so many bytes if twice its count fits behind its start
module _ (list : Places) (n : ℕ) where
  pub within_past : n < list.start → false ≡ leb (behind 2 list) n
  unfolding behind
  within_past h = sym (lt-leb (list.start + 2 * list.count) n (omega arith))

  pub within_half : list.start ≤ n → leb list.count ((n - list.start) / 2) ≡ leb (behind 2 list) n
  unfolding behind
  within_half h = go (leb list.count ((n - list.start) / 2)) refl
    where
      go : (t : Bool) → leb list.count ((n - list.start) / 2) ≡ t → t ≡ leb (list.start + 2 * list.count) n
      go true e = let l = leb-true list.count ((n - list.start) / 2) e in sym (le-leb (list.start + 2 * list.count) n (omega arith))
      go false e = let l = leb-false list.count ((n - list.start) / 2) e in sym (lt-leb (list.start + 2 * list.count) n (omega arith))

-- so do both lists of a request that was tested
module _ (q : MatchDescReq) (payload : List ℕ) (g : good_places q payload ≡ true) where
  both : (leb (behind 2 q.input_clusters) (length payload) ≡ true) × (leb (behind 2 q.output_clusters) (length payload) ≡ true)
  unfolding good_places
  both = (and-eq-true_iff _ _).0 g

  pub inputs_within : behind 2 q.input_clusters ≤ length payload
  inputs_within = leb-true _ _ both.0

  pub outputs_within : behind 2 q.output_clusters ≤ length payload
  outputs_within = leb-true _ _ both.1

-- ---- a record

module _ (q : MatchDescReq) (payload : List ℕ) (p : Pools) (e : EndpointDescriptor) {t : Bool} (is : t ≡ profile_matches q.profile_id e.profile_id) where
  -- another profile
  pub other_profile : not t ≡ true → false ≡ matches (wanted q payload) (endpoint_of p e)
  unfolding matches wanted endpoint_of
  other_profile bad = rw (said_no is bad)

  module _
      (fine : not t ≡ false)
      {own : List ℕ}
      (ins : own ≡ clusters_of Input (endpoint_of p e))
      {i : Bool}
      (a : i ≡ shared (entries_at 2 payload q.input_clusters) own) where
    -- an input that is asked for
    pub by_input : i ≡ true → true ≡ matches (wanted q payload) (endpoint_of p e)
    unfolding matches wanted endpoint_of clusters_of
    by_input y = rw (said_yes is fine, ← ins, ← a, y)

    -- no input: an output decides
    pub by_output :
        i ≡ false
        → {own' : List ℕ}
        → own' ≡ clusters_of Output (endpoint_of p e)
        → {o : Bool}
        → o ≡ shared (entries_at 2 payload q.output_clusters) own'
        → o ≡ matches (wanted q payload) (endpoint_of p e)
    unfolding matches wanted endpoint_of clusters_of
    by_output n outs b = rw (said_yes is fine, ← ins, ← a, n, ← outs) b
