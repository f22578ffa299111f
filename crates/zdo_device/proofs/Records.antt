-- The records in use: what a search through them finds, and what a check of them says. Assumes nothing.
use Rattle.std.specs.Prelude as std
use Rattle.std.specs.Prelude.{Option, Some}
use Rattle.std.specs.List.{list_all}
use Rattle.zdo_device.proofs.Chains.{same_find, same_all}
use Prim.Native.Nat.{ℕ, ◌≤◌, min}
use native.Mathlib.Omega.{arith}
use mathlib.Core.Path.{◌≡◌, refl, sym, ◌∙◌}
use mathlib.Core.Bool.{Bool, true, false, ◌&&◌, not, and-eq-true_iff}
use lib.Dec.{eqb, leb}
use lib.ListN.{length, take, length-take}
use lib.Seq.{take_all}
use borrow.Author.Tests.{leb-true, leb-false, le-leb}
use Rattle.zigbee_types.specs.Lists.{all}
use Rattle.zigbee_types.proofs.Scans.{find_all, said_no}
use Rattle.zdo_device.specs.Tables.{Pools, used, endpoint_record, record_fits, good_sizes, good_records, good_device}
use Rattle.zdo_device.specs.declared.descriptor.EndpointDescriptor.{EndpointDescriptor}
use Rattle.zdo_device.specs.declared.descriptor.DeviceDescriptorConfig.{DeviceDescriptorConfig}

-- there are as many as the count says, and at most the thirty-two
pub used_counted : (d : DeviceDescriptorConfig) → length d.endpoints ≡ 32 → length (used d) ≡ min d.endpoint_count 32
unfolding used
used_counted d e = rw (length-take, e)

-- ---- the search for a number

-- the first 32 of the count's records are those in use
used_few : (d : DeviceDescriptorConfig) → length d.endpoints ≡ 32 → take (min d.endpoint_count 32) d.endpoints ≡ used d
unfolding used
used_few d e = go (leb d.endpoint_count 32) refl
  where
    go : (few : Bool) → leb d.endpoint_count 32 ≡ few → take (min d.endpoint_count 32) d.endpoints ≡ take d.endpoint_count d.endpoints
    go true f =
        let h = leb-true _ _ f in
        let same : min d.endpoint_count 32 ≡ d.endpoint_count = omega arith in
        rw same
    go false f =
        let h = leb-false _ _ f in
        let same : min d.endpoint_count 32 ≡ 32 = omega arith in
        rw (same, take_all 32 d.endpoints (omega (arith, e)), take_all d.endpoint_count d.endpoints (omega (arith, e)))

-- what a search through them finds
pub sought :
    (d : DeviceDescriptorConfig) (number n : ℕ) {q : Option EndpointDescriptor}
    → length d.endpoints ≡ 32
    → n ≡ min d.endpoint_count 32
    → q ≡ std.find (λ e. eqb e.endpoint number) (take n d.endpoints)
    → q ≡ endpoint_record d number
unfolding endpoint_record
sought d number n e few f = rw (f, few, used_few d e, same_find)

-- ---- the check of the tables

-- where the sizes are good, so is the number of records
pub sizes_few : (n a b : ℕ) {t : Bool} → t ≡ good_sizes n a b → t ≡ true → n ≤ 32
unfolding good_sizes
sizes_few n a b is fine =
    let (records, outputs) = (and-eq-true_iff (leb n 32 && leb a 512) (leb b 512)).0 (sym is ∙ fine) in
    leb-true n 32 ((and-eq-true_iff (leb n 32) (leb a 512)).0 records).0

-- too many records or clusters
pub sizes_bad :
    (p : Pools) (d : DeviceDescriptorConfig) (t : Bool)
    → length d.endpoints ≡ 32
    → t ≡ good_sizes d.endpoint_count (length p.inputs) (length p.outputs)
    → not t ≡ true
    → false ≡ good_device p d
unfolding good_device good_records
sizes_bad p d t e is bad = go (leb d.endpoint_count 32) refl
  where
    go : (few : Bool) → leb d.endpoint_count 32 ≡ few → false ≡ few && (good_sizes (length (used d)) (length p.inputs) (length p.outputs) && all (record_fits p) (used d))
    go false f = refl
    go true f =
        let same : length (used d) ≡ d.endpoint_count = omega (arith, used_counted d e, leb-true d.endpoint_count 32 f) in
        rw (same, said_no is bad)

-- where the sizes are good, a test of all says whether the tables are
pub all_checked :
    (p : Pools) (d : DeviceDescriptorConfig) {t r : Bool}
    → length d.endpoints ≡ 32
    → t ≡ good_sizes d.endpoint_count (length p.inputs) (length p.outputs)
    → t ≡ true
    → r ≡ list_all (record_fits p) (take d.endpoint_count d.endpoints)
    → r ≡ good_device p d
unfolding good_device good_records used
all_checked p d e is fine f =
    let few : d.endpoint_count ≤ 32 = sizes_few _ _ _ is fine in
    let many : length (take d.endpoint_count d.endpoints) ≡ d.endpoint_count = rw length-take (omega (arith, e)) in
    let sizes : good_sizes d.endpoint_count (length p.inputs) (length p.outputs) ≡ true = sym is ∙ fine in
    rw (f, le-leb _ _ few, many, sizes, same_all)

-- ---- good tables

module _ (p : Pools) (d : DeviceDescriptorConfig) (g : good_device p d ≡ true) where
  both : (leb d.endpoint_count 32 ≡ true) × (good_records p (used d) ≡ true)
  unfolding good_device
  both = (and-eq-true_iff _ _).0 g

  -- have at most 32 records
  pub good_count : d.endpoint_count ≤ 32
  good_count = leb-true _ _ both.0

  -- all of them fit
  pub good_fit : all (record_fits p) (used d) ≡ true
  unfolding good_records
  good_fit = ((and-eq-true_iff (good_sizes (length (used d)) (length p.inputs) (length p.outputs)) _).0 both.1).1

  -- and so does the one that is found
  pub good_found :
      (number : ℕ) {q : Option EndpointDescriptor} {e : EndpointDescriptor} → q ≡ Some e → q ≡ endpoint_record d number → record_fits p e ≡ true
  unfolding endpoint_record
  good_found number is f = find_all _ (record_fits p) (used d) good_fit (sym (rw is at f))
