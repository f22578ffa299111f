-- The match reply: a request that was parsed has its lists within the payload, and a list made in as many places as there are records
-- is whole. Assumes nothing.
use Rattle.std.specs.Prelude.{Result, Ok}
use Prim.Native.Nat.{ℕ, ◌≤◌, min}
use native.Mathlib.Omega.{arith}
use mathlib.Core.Path.{◌≡◌, sym, ◌∙◌}
use mathlib.Core.Bool.{Bool, true, false, cond}
use mathlib.Core.List.{List, [], ◌∷◌, ◌++◌, map}
use lib.Dec.{leb}
use lib.ListN.{length, take, drop, length-append, length-map, length-take}
use lib.Seq.{take_at, take_all}
use borrow.Author.Tests.{leb-true, le-leb}
use Rattle.zigbee_types.specs.declared.Refusal.{Refusal}
use Rattle.zigbee_types.specs.Lists.{filter}
use Rattle.zigbee_types.specs.Outcome.{Outcome, answer, mapped, needing, begun_length, begun, Begun, Wrote}
use Rattle.zigbee_types.specs.Layout.{counted, behind, field_of, lists_in}
use Rattle.zigbee_types.specs.declared.Places.{Places}
use Rattle.zigbee_types.specs.declared.ShortAddress.{ShortAddress}
use Rattle.zigbee_types.proofs.Outcomes.{granted, mapped_granted}
use Rattle.zdo_requests.specs.Requests.{match_widths, match_req_of, match_desc_req_in}
use Rattle.zigbee_types.specs.Answers.{says}
use Rattle.zdo_requests.specs.declared.descriptor.MatchDescReq.{MatchDescReq}
use Rattle.zdo_replies.specs.Replies.{list_rsp}
use Rattle.zdo_device.specs.Tables.{Pools, used, good_device, endpoint_of, resolved_in}
use Rattle.zdo_device.specs.declared.descriptor.DeviceDescriptorConfig.{DeviceDescriptorConfig}
use Rattle.zdo_device.proofs.Records.{good_count}
use Rattle.zdo_matching.specs.Matching.{Wanted, matches, match_list, good_places}

-- ---- a request that was parsed

-- the second list begins behind the first
first_within : (bytes : List ℕ) (p : Places) → behind 2 p ≤ behind 2 (counted bytes (behind 2 p))
unfolding behind counted
first_within bytes p = omega arith

-- so both lists of a request end within the payload
parsed_places : (payload : List ℕ) {q : MatchDescReq} → match_desc_req_in payload ≡ answer q → good_places q payload ≡ true
unfolding match_desc_req_in match_req_of lists_in needing good_places
parsed_places payload {q} e =
    let ins = counted payload 5 in
    let outs = counted payload (behind 2 ins) in
    let (enough, is) = granted (leb (behind 2 outs) (length payload)) _ 3 (rw mapped_granted at e) in
    let long = leb-true (behind 2 outs) (length payload) enough in
    let same : match_req_of (field_of match_widths payload) (record { input_clusters = ins; output_clusters = outs }) ≡ q = cc in
    rw (← same, le-leb (behind 2 ins) (length payload) (omega (arith, first_within payload ins)), enough)

-- as its parser said
pub match_places :
    (payload : List ℕ) {r : Result MatchDescReq Refusal} {q : MatchDescReq}
    → says r ≡ match_desc_req_in payload
    → r ≡ Ok q
    → good_places q payload ≡ true
unfolding says
match_places payload said is = parsed_places payload (rw is at (sym said))

-- ---- a list in places of its own

-- no more elements pass a test than there are
filter_few : {A : Type 0} (p : A → Bool) (xs : List A) → length (filter p xs) ≤ length xs
unfolding filter
filter_few p [] = omega arith
filter_few p (x ∷ xs) =
    let rest = filter_few p xs in
    elim (p x) as (λ t. length (cond t (x ∷ filter p xs) (filter p xs)) ≤ length (x ∷ xs)) [
      | true ↦ omega arith
      | false ↦ omega arith
    ]

-- a list stands whole in the first n of some places
pub record Whole (xs : List ℕ) (n : ℕ) (places : List ℕ) : Type 0 where
  pub long : n ≡ length xs
  pub front : take n places ≡ xs
  pub within : n ≤ length places

-- so does one that was begun where there was room for all of it
begun_whole :
    (xs : List ℕ) {before after : List ℕ} {n : ℕ} → Begun (answer xs) before (answer n) after → length xs ≤ length before → Whole xs n after
unfolding begun_length begun mapped
begun_whole xs {before} {after} {n} b h =
    let told : answer n ≡ answer (min (length before) (length xs)) = b.said in
    let long : n ≡ min (length before) (length xs) = cc in
    let all : n ≡ length xs = omega arith in
    let left : after ≡ xs ++ drop (length xs) before = b.left ∙ rw (take_all (length before) xs h) in
    record {
      long = all;
      front = rw (left, take_at xs (drop (length xs) before) n (sym all));
      within = rw (left, length-append) (omega arith);
    }

module _ (w : Wanted) (p : Pools) (d : DeviceDescriptorConfig) (g : good_device p d ≡ true) where
  -- no more endpoints match than there are records
  pub matches_few : length (match_list w (resolved_in p (used d))) ≤ 32
  unfolding match_list resolved_in used
  matches_few =
      let some = filter_few (matches w) (map (endpoint_of p) (take d.endpoint_count d.endpoints)) in
      rw length-map (omega (arith, good_count p d g, rw (length-map, length-take) at some))

  module _ {before after : List ℕ} {n : ℕ} (b : Begun (answer (match_list w (resolved_in p (used d)))) before (answer n) after) (room : length before ≡ 32) where
    pub matched_whole : Whole (match_list w (resolved_in p (used d))) n after
    matched_whole = begun_whole _ b (omega (arith, matches_few))

    -- so there are so many, within the places
    pub matched_long : n ≡ length (take n after)
    matched_long = rw matched_whole.front matched_whole.long

    pub matched_within : n ≤ length after
    matched_within = matched_whole.within

    -- handed on, it is the reply's
    pub matched_replied :
        (seq : ℕ) (a : ShortAddress) {out later : List ℕ} {told : Outcome ℕ}
        → Wrote (list_rsp seq a (take n after)) out told later
        → Wrote (list_rsp seq a (match_list w (resolved_in p (used d)))) out told later
    matched_replied seq a h = rw matched_whole.front at h
