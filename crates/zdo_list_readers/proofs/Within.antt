-- A descriptor within its length: none, or what was read of it, its lists counted from the start of the reply. Assumes nothing.
use Rattle.std.specs.Prelude.{Some, None, Result, Ok, Err}
use Rattle.std.specs.Result.{IsErr, IsErrAnd}
use Prim.Native.Nat.{ℕ, ◌+◌, ◌-◌, ◌^◌, ◌≤◌, ◌<◌}
use native.Mathlib.Omega.{arith}
use mathlib.Core.Path.{◌≡◌, sym}
use mathlib.Core.Bool.{cond}
use mathlib.Core.List.{List}
use lib.Dec.{leb}
use lib.ListN.{length, take, drop, length-take}
use borrow.Author.Tests.{ne_eqb, leb-true}
use Rattle.zigbee_types.specs.Lists.{part}
use Rattle.zigbee_types.specs.Outcome.{Outcome, answer, refusal, and_then, mapped, needing}
use Rattle.zigbee_types.specs.Layout.{field_of, counted, behind, lists_in}
use Rattle.zigbee_types.specs.declared.Places.{Places}
use Rattle.zigbee_types.specs.declared.ClusterLists.{ClusterLists}
use Rattle.zigbee_types.specs.declared.Refusal.{Refusal}
use Rattle.zigbee_types.proofs.Outcomes.{granted, mapped_granted}
use Rattle.zigbee_types.proofs.Parts.{part_is}
use Rattle.zigbee_types.proofs.Passed.{passed_mapped}
use Rattle.simple_descriptor.specs.SimpleDescriptor.{simple_widths, simple_of, simple_descriptor_in}
use Rattle.zigbee_types.specs.Answers.{says}
use Rattle.simple_descriptor.specs.declared.SimpleDescriptorFields.{SimpleDescriptorFields}
use Rattle.zdo_list_readers.specs.ListReaders.{list_reply_in, shifted, shifted_fields, simple_within, simple_reply_in}
use Rattle.zdo_list_readers.specs.declared.readers.ListReply.{ListReply}
use Rattle.zdo_list_readers.specs.declared.readers.SimpleReply.{SimpleReply}

module _ (l : ListReply) (bytes : List ℕ) where
  -- of length 0 there is none
  pub within_none : l.list.count ≡ 0 → says (Ok (record { header = l.header; descriptor = None })) ≡ simple_within l bytes
  unfolding says simple_within
  within_none e = rw e

  module _ (end : ℕ) (long : l.list.count ≡ 0 → ⊥) (to : end ≡ l.list.start + l.list.count) where
    there : take (end - l.list.start) (drop l.list.start bytes) ≡ part l.list.start l.list.count bytes
    there = part_is bytes l.list.start end l.list.count to

    -- refused where no descriptor was read
    pub within_refused :
        (r : Result SimpleReply Refusal) (why : Refusal)
        → says {A = SimpleDescriptorFields} (Err why) ≡ simple_descriptor_in (take (end - l.list.start) (drop l.list.start bytes))
        → IsErr r × IsErrAnd r (λ e. e ≡ why)
        → says r ≡ simple_within l bytes
    unfolding simple_within
    within_refused r why said handed = rw (ne_eqb _ _ long) (passed_mapped r why (rw there at said) handed _)

    -- otherwise what was read, moved to its place
    pub within_read :
        {f : SimpleDescriptorFields} (d : SimpleDescriptorFields)
        → says (Ok d) ≡ simple_descriptor_in (take (end - l.list.start) (drop l.list.start bytes))
        → f ≡ shifted_fields l.list.start d
        → says (Ok (record { header = l.header; descriptor = Some f })) ≡ simple_within l bytes
    unfolding says simple_within mapped
    within_read d said is = rw (ne_eqb _ _ long, ← (rw there at said), is)

-- lists that were read end within the bytes
pub lists_end :
    (bytes : List ℕ) (d : SimpleDescriptorFields)
    → says (Ok d) ≡ simple_descriptor_in bytes
    → (behind 2 d.input_clusters ≤ length bytes) × (behind 2 d.output_clusters ≤ length bytes)
unfolding says simple_descriptor_in lists_in needing simple_of behind counted
lists_end bytes d said =
    let inputs : Places = counted bytes 6 in
    let outputs : Places = counted bytes (behind 2 inputs) in
    let lists : ClusterLists = record { input_clusters = inputs; output_clusters = outputs } in
    let found : answer d ≡ mapped (simple_of (field_of simple_widths bytes)) (cond (leb (behind 2 outputs) (length bytes)) (answer lists) (refusal 3)) = said in
    let (held, same) = granted (leb (behind 2 outputs) (length bytes)) (answer (simple_of (field_of simple_widths bytes) lists)) 3 (rw mapped_granted at (sym found)) in
    let long : behind 2 outputs ≤ length bytes = leb-true (behind 2 outputs) (length bytes) held in
    let first : d.input_clusters ≡ inputs = cc same in
    let second : d.output_clusters ≡ outputs = cc same in
    (rw first (omega (arith, long)), rw second long)

-- so they still have a place in the reply
pub places_fit :
    (bytes : List ℕ) (place : Places) (d : SimpleDescriptorFields)
    → says (Ok d) ≡ simple_descriptor_in (take (place.start + place.count - place.start) (drop place.start bytes))
    → behind 1 place ≤ length bytes
    → length bytes < 2 ^ 63
    → (place.start + d.input_clusters.start < 2 ^ 63) × (place.start + d.output_clusters.start < 2 ^ 63)
unfolding behind
places_fit bytes place d said room small =
    let (first, second) = lists_end (take (place.start + place.count - place.start) (drop place.start bytes)) d said in
    let long = length-take (place.start + place.count - place.start) (drop place.start bytes) in
    (omega (arith, first, long), omega (arith, second, long))

-- a descriptor whose lists are both moved is moved
pub moved_both :
    (at : ℕ) (d : SimpleDescriptorFields) {p q : Places}
    → p ≡ shifted at d.input_clusters
    → q ≡ shifted at d.output_clusters
    → ◌≡◌
    {A = SimpleDescriptorFields}
    (record {
      endpoint = d.endpoint;
      profile_id = d.profile_id;
      device_id = d.device_id;
      device_version = d.device_version;
      input_clusters = p;
      output_clusters = q;
    })
    (shifted_fields at d)
unfolding shifted_fields
moved_both at d e f = rw (e, f)

-- what stands behind a list that was read
pub simple_headed :
    (bytes : List ℕ) (l : ListReply) {told : Outcome SimpleReply}
    → says (Ok l) ≡ list_reply_in bytes
    → told ≡ simple_within l bytes
    → told ≡ simple_reply_in bytes
unfolding says simple_reply_in and_then
simple_headed bytes l said t = rw (← said) t
