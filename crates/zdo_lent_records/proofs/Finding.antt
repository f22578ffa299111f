-- Matching over a run of records: the tests before its loop, and what is found by it. Assumes nothing.
use Rattle.std.specs.Prelude.{Ok, Err}
use Prim.Native.Nat.{ℕ, ◌≤◌}
use mathlib.Core.Path.{◌≡◌}
use mathlib.Core.Bool.{Bool, true, false, not, and-eq-true_iff}
use mathlib.Core.List.{List}
use lib.ListN.{length}
use Rattle.zigbee_types.specs.Outcome.{mapped, Begun}
use Rattle.zigbee_types.specs.Answers.{says}
use Rattle.zigbee_types.specs.declared.Refusal.TheVariants.{BadTables, Malformed}
use Rattle.zigbee_types.proofs.Scans.{said_no, said_yes}
use Rattle.zdo_requests.specs.declared.descriptor.MatchDescReq.{MatchDescReq}
use Rattle.zdo_device.specs.Tables.{Pools, good_sizes, good_records}
use Rattle.zdo_device.specs.declared.descriptor.EndpointDescriptor.{EndpointDescriptor}
use Rattle.zdo_matching.specs.Matching.{wanted, good_places, matched_in, matched_records}
use Rattle.zdo_matching.specs.Answers.{matching_says}
use Rattle.zdo_matching.specs.declared.descriptor.Matched.{Matched}
use Rattle.zdo_matching.specs.declared.sought.Sought.{Sought}
use Rattle.zdo_matching.proofs.Found.{Found, found_first, found_end, begun_refused}

module _ (p : Pools) (records : List EndpointDescriptor) (q : MatchDescReq) (payload before : List ℕ) {t : Bool} (is : t ≡ good_records p records) where
  -- refusal 1
  pub run_bad : not t ≡ true → Begun (matched_records p records q payload) before (matching_says (Err BadTables)) before
  unfolding matching_says mapped says matched_records
  run_bad bad = rw (said_no is bad) (begun_refused 1 before)

  module _ (fine : not t ≡ false) where
    -- refusal 3
    pub run_past : false ≡ good_places q payload → Begun (matched_records p records q payload) before (matching_says (Err Malformed)) before
    unfolding matching_says mapped says matched_records matched_in
    run_past bad = rw (said_yes is fine, ← bad) (begun_refused 3 before)

    -- what is found
    pub run_found :
        true ≡ good_places q payload
        → (s : Sought) {i : ℕ} (m : Matched) {after : List ℕ}
        → (s.request ≡ q) × (s.payload.now ≡ payload)
        → Found (wanted s.request s.payload.now) p records i before m.written after
        → length records ≤ i
        → Begun (matched_records p records q payload) before (matching_says (Ok m)) after
    unfolding matching_says mapped says matched_records matched_in
    run_found good s m same f all = rw (said_yes is fine, ← good) (found_end (rw (same.0, same.1) at f) all)

-- good records all fit, so the loop may begin
pub run_first :
    (p : Pools) (records : List EndpointDescriptor) (q : MatchDescReq) (payload before : List ℕ) {t : Bool}
    → t ≡ good_records p records
    → not t ≡ false
    → Found (wanted q payload) p records 0 before 0 before
unfolding good_records
run_first p records q payload before is fine =
    let fit = ((and-eq-true_iff (good_sizes (length records) (length p.inputs) (length p.outputs)) _).0 (said_yes is fine)).1 in
    found_first (wanted q payload) p records before fit
