-- The records of a run that match, for a loop that goes through all of them, and what the tests before it refuse. Assumes nothing.
use Rattle.std.specs.Prelude.{Ok, Err}
use Rattle.zdo_device.specs.Checked.{pools_of}
use Rattle.zdo_device.specs.declared.tables.Tables.{Tables}
use Prim.Native.Nat.{ℕ, ◌+◌, ◌≤◌, ◌<◌}
use native.Mathlib.Numerals.{add-one}
use native.Mathlib.Omega.{arith}
use mathlib.Core.Path.{◌≡◌, refl}
use mathlib.Core.Bool.{Bool, true, false, not, ◌&&◌, cond, and-eq-true_iff}
use mathlib.Core.List.{List, [], ◌∷◌, map-append}
use lib.Dec.{leb}
use lib.ListN.{length, get_or, take, set}
use lib.Seq.{take_all, take-suc, drop-cons}
use borrow.Author.Tests.{leb-true, le-leb}
use Rattle.zigbee_types.specs.Lists.{all, filter}
use Rattle.zigbee_types.specs.Outcome.{answer, refusal, mapped, begun_length, begun, Begun}
use Rattle.zigbee_types.specs.declared.Refusal.TheVariants.{BadTables, Malformed}
use Rattle.zigbee_types.proofs.Scans.{all_left, filter_last, said_no, said_yes}
use Rattle.zdo_requests.specs.declared.descriptor.MatchDescReq.{MatchDescReq}
use Rattle.zdo_device.specs.Tables.{Pools, used, record_fits, good_device, endpoint_of, resolved_in}
use Rattle.zdo_device.specs.declared.descriptor.EndpointDescriptor.{EndpointDescriptor}
use Rattle.zdo_device.specs.declared.descriptor.DeviceDescriptorConfig.{DeviceDescriptorConfig}
use Rattle.zdo_device.proofs.Records.{good_fit}
use Rattle.zdo_matching.specs.Matching.{Wanted, wanted, matches, match_list, good_places, matched_in, matching_endpoints, may_match, matched_with}
use Rattle.zigbee_types.specs.Answers.{says}
use Rattle.zdo_matching.specs.Answers.{matching_says}
use Rattle.zdo_matching.specs.declared.descriptor.Matched.{Matched}
use Rattle.zdo_matching.specs.declared.sought.Sought.{Sought}
use Rattle.zdo_matching.proofs.Filled.{Filled, filled_none, filled_within, filled_more, filled_begun, begun_filled, behind_none, behind_full, behind_one}

-- ---- one record

module _ (p : Pools) (e : EndpointDescriptor) (q : MatchDescReq) (payload before : List ℕ) (k : ℕ) (may : may_match p e q payload (length before) (answer k) ≡ true) where
  checks : (leb k (length before) ≡ true) × (record_fits p e ≡ true) × (good_places q payload ≡ true)
  unfolding may_match
  checks =
      let (front, places) = (and-eq-true_iff (leb k (length before) && record_fits p e) (good_places q payload)).0 may in
      let (within, fits) = (and-eq-true_iff (leb k (length before)) (record_fits p e)).0 front in
      (within, fits, places)

  -- what a turn takes for granted
  pub may_fit : record_fits p e ≡ true
  may_fit = checks.1

  pub may_read : good_places q payload ≡ true
  may_read = checks.2

  may_stand : k ≤ length before
  may_stand = leb-true _ _ checks.0

  module _ {t : Bool} (is : t ≡ matches (wanted q payload) (endpoint_of p e)) where
    one : (b : Bool) → t ≡ b → match_list (wanted q payload) (endpoint_of p e ∷ []) ≡ cond b (e.endpoint ∷ []) []
    unfolding match_list filter endpoint_of
    one true said = rw (← is, said)
    one false said = rw (← is, said)

    abbrev Adds : ℕ → List ℕ → Type 0
    Adds m after = Begun (matched_with (wanted q payload) (endpoint_of p e) before (answer k)) before (answer m) after

    -- it does not match
    pub record_skip : not t ≡ true → Adds k before
    unfolding matched_with mapped
    record_skip said = rw (one false (said_no refl said)) (filled_begun (behind_none before k may_stand))

    module _ (said : not t ≡ false) where
      -- it does, and there is no room
      pub record_full : length before ≤ k → Adds k before
      unfolding matched_with mapped
      record_full full = rw (one true (said_yes refl said)) (filled_begun (behind_full before k may_stand e.endpoint (omega (arith, may_stand))))

      -- it does, and is written
      pub record_more : k < length before → Adds (k + 1) (set before k e.endpoint)
      unfolding matched_with mapped
      record_more room = rw (one true (said_yes refl said)) (filled_begun (behind_one before k may_stand e.endpoint room))

-- ---- a run of records

-- all of a run fit, and of those before the i-th the ones that match were written, or as many of them as there was room for
pub record Found (w : Wanted) (p : Pools) (records : List EndpointDescriptor) (i : ℕ) (before : List ℕ) (k : ℕ) (after : List ℕ) : Type 0 where
  pub fit : all (record_fits p) records ≡ true
  pub filled : Filled (match_list w (resolved_in p (take i records))) before k after

-- of none, to begin with
pub found_first : (w : Wanted) (p : Pools) (records : List EndpointDescriptor) (before : List ℕ) → all (record_fits p) records ≡ true → Found w p records 0 before 0 before
unfolding match_list resolved_in filter
found_first w p records before fit = record { fit = fit; filled = filled_none before }

module _ {w : Wanted} {p : Pools} {records : List EndpointDescriptor} {i k : ℕ} {before after : List ℕ} (f : Found w p records i before k after) where
  -- of all of them
  pub found_end : length records ≤ i → Begun (answer (match_list w (resolved_in p records))) before (answer k) after
  found_end h = filled_begun (rw (take_all i records h) at f.filled)

  module _ (z : EndpointDescriptor) (h : i < length records) where
    -- the next one's turn may be taken
    pub found_may : (q : MatchDescReq) (payload : List ℕ) → good_places q payload ≡ true → may_match p (get_or records i z) q payload (length after) (answer k) ≡ true
    unfolding may_match
    found_may q payload places =
        let fits : record_fits p (get_or records i z) ≡ true = all_left (record_fits p) i records (drop-cons records i z h) f.fit in
        rw (le-leb _ _ (filled_within f.filled), fits, places)

    -- and what it adds was written
    pub found_next :
        {m : ℕ} {later : List ℕ}
        → Begun (matched_with w (endpoint_of p (get_or records i z)) after (answer k)) after (answer m) later
        → Found w p records (i + 1) before m later
    unfolding matched_with mapped match_list resolved_in
    found_next b =
        record { fit = f.fit; filled = rw (add-one, take-suc records i z h, map-append, filter_last, map-append) (filled_more f.filled _ (begun_filled b)) }

-- ---- the same of the records in use

module _ (w : Wanted) (p : Pools) (d : DeviceDescriptorConfig) (before : List ℕ) where
  pub used_first : good_device p d ≡ true → Found w p (take d.endpoint_count d.endpoints) 0 before 0 before
  unfolding used
  used_first g = found_first w p _ before (good_fit p d g)

  pub used_end :
      {i k : ℕ} {after : List ℕ}
      → Found w p (take d.endpoint_count d.endpoints) i before k after
      → length (take d.endpoint_count d.endpoints) ≤ i
      → Begun (answer (match_list w (resolved_in p (used d)))) before (answer k) after
  unfolding used
  used_end f h = found_end f h

-- ---- the tests before it

-- a refusal leaves the buffer as it was
pub begun_refused : (n : ℕ) (before : List ℕ) → Begun (refusal n) before (refusal n) before
unfolding begun_length begun mapped
begun_refused n before = record { said = refl; left = refl }

module _ (p : Pools) (d : DeviceDescriptorConfig) (q : MatchDescReq) (payload before : List ℕ) where
  -- refusal 1
  pub refused_tables : false ≡ good_device p d → Begun (matching_endpoints p d q payload) before (matching_says (Err BadTables)) before
  unfolding matching_says mapped says matching_endpoints
  refused_tables bad = rw (← bad) (begun_refused 1 before)

  module _ (good : true ≡ good_device p d) where
    -- refusal 3
    pub refused_places : false ≡ good_places q payload → Begun (matching_endpoints p d q payload) before (matching_says (Err Malformed)) before
    unfolding matching_says mapped says matching_endpoints matched_in
    refused_places bad = rw (← good, ← bad) (begun_refused 3 before)

    -- otherwise what is found
    pub found_matched :
        true ≡ good_places q payload
        → (t : Tables) (s : Sought) (m : Matched) {after : List ℕ}
        → (t.device.now ≡ d) × (pools_of t.pools ≡ p)
        → (s.request ≡ q) × (s.payload.now ≡ payload)
        → Begun (answer (match_list (wanted s.request s.payload.now) (resolved_in (pools_of t.pools) (used t.device.now)))) before (answer m.written) after
        → Begun (matching_endpoints p d q payload) before (matching_says (Ok m)) after
    unfolding matching_says mapped says matching_endpoints matched_in
    found_matched fine t s m same is h = rw (← good, ← fine) (rw (same.0, same.1, is.0, is.1) at h)
