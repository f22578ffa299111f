-- The active reply: a header, how many records there are, and their numbers. Assumes nothing.
use Rattle.std.specs.Prelude.{Result, Ok, Err}
use Rattle.std.specs.Result.{IsErr, IsErrAnd}
use Prim.Native.Nat.{ℕ, ◌+◌, ◌≤◌, ◌<◌, min}
use native.Mathlib.Numerals.{add-one}
use native.Mathlib.Omega.{arith}
use mathlib.Core.Path.{◌≡◌, refl, sym, ◌∙◌}
use mathlib.Core.Bool.{Bool, true, false, cond}
use mathlib.Core.List.{List, [], ◌∷◌, ◌++◌, map, map-append, append_assoc}
use lib.Dec.{leb}
use lib.ListN.{length, get_or, take, length-map}
use lib.Seq.{length-sets, take_all, take-suc, length-take-le}
use borrow.Author.Tests.{leb-true, leb-false, le-leb, lt-leb}
use Rattle.zigbee_types.specs.Outcome.{answer, refusal, mapped, fitted, written, Wrote}
use Rattle.zigbee_types.specs.Answers.{says}
use Rattle.zigbee_types.specs.Bytes.{FieldPut}
use Rattle.zigbee_types.specs.Layout.{byte, laid, size, FieldsPut}
use Rattle.zigbee_types.specs.FieldLaws.{widths}
use Rattle.zigbee_types.specs.Statuses.{SUCCESS}
use Rattle.zigbee_types.specs.declared.Refusal.{Refusal}
use Rattle.zigbee_types.specs.declared.Refusal.TheVariants.{BadTables, ShortBuffer}
use Rattle.zigbee_types.specs.declared.ShortAddress.{ShortAddress}
use Rattle.zigbee_types.proofs.Layouts.{laid_counted, size_entries}
use Rattle.zigbee_types.proofs.Outcomes.{refused, wrote_refused, stored_front, wrote_bytes}
use Rattle.zigbee_types.proofs.Passed.{passed}
use Rattle.zigbee_types.proofs.Fields.{put_counted}
use Rattle.zigbee_types.proofs.Runs.{run_put_none, run_put_both, run_put_last, run_writes}
use Rattle.zdo_replies.specs.Replies.{header, endpoint_list, list_rsp}
use Rattle.zdo_match_rsp.proofs.Written.{list_full}
use Rattle.zdo_device.specs.Tables.{used}
use Rattle.zdo_device.specs.declared.descriptor.EndpointDescriptor.{EndpointDescriptor}
use Rattle.zdo_device.specs.declared.descriptor.DeviceDescriptorConfig.{DeviceDescriptorConfig}
use Rattle.zdo_device.proofs.Records.{used_counted}
use Rattle.zdo_device_rsp.specs.TableReplies.{numbers, active_rsp_of, active_begun, active_ep_rsp}

-- ---- what stands before the list

module _ (seq : ℕ) (a : ShortAddress) (count : ℕ) (before : List ℕ) where
  -- five bytes
  begun_size : size (widths (header seq SUCCESS a ++ byte count ∷ [])) ≡ 5
  unfolding header size
  begun_size = refl

  -- refusal 1
  pub begun_many : 32 < count → Wrote (active_begun seq a count (length before)) before (says (Err BadTables)) before
  unfolding active_begun says
  begun_many h = rw (lt-leb _ _ h) (wrote_refused 1 before)

  module _ (few : count ≤ 32) where
    -- refusal 5
    pub begun_full : length before < 5 + count → Wrote (active_begun seq a count (length before)) before (says (Err ShortBuffer)) before
    unfolding active_begun says
    begun_full h = rw (le-leb _ _ few, lt-leb _ _ h) (wrote_refused 5 before)

    -- otherwise header and count
    pub begun_writes :
        {m n : ℕ} {t u : List ℕ}
        → 5 + count ≤ length before
        → FieldsPut (header seq SUCCESS a) before 0 m t
        → FieldPut 1 count t m n u
        → Wrote (active_begun seq a count (length before)) before (says (Ok n)) u
    unfolding active_begun says
    begun_writes h p q = rw (le-leb _ _ few, le-leb _ _ h) (run_writes (run_put_last p q) (rw begun_size (omega arith)))

  -- a length was told, so both stand there, with room for the list
  pub record Opened (at : ℕ) (after : List ℕ) : Type 0 where
    pub few : count ≤ 32
    pub room : 5 + count ≤ length before
    pub put : FieldsPut (header seq SUCCESS a ++ byte count ∷ []) before 0 at after

  pub begun_opened : {at : ℕ} {after : List ℕ} → Wrote (active_begun seq a count (length before)) before (answer at) after → Opened at after
  unfolding active_begun mapped fitted
  begun_opened {at} {after} w = go (leb count 32) (leb (5 + count) (length before)) refl refl
    where
      go : (t u : Bool) → leb count 32 ≡ t → leb (5 + count) (length before) ≡ u → Opened at after
      go true true few room =
          let stands = wrote_bytes (rw (few, room) at w) in
          let long : length (laid (header seq SUCCESS a ++ byte count ∷ [])) ≡ 5 = laid_counted (header seq SUCCESS a ++ byte count ∷ []) ∙ begun_size in
          let fits : 5 + count ≤ length before = leb-true _ _ room in
          record {
            few = leb-true _ _ few;
            room = fits;
            put = record { moved = omega (arith, stands.long); left = stands.left ∙ sym (stored_front (laid (header seq SUCCESS a ++ byte count ∷ [])) before (rw long (omega arith))) };
          }
      go true false few full = absurd (refused (sym (rw (few, full) at w.said)))
      go false u many e = absurd (refused (sym (rw many at w.said)))

  -- so there is room behind them
  pub begun_room : {at : ℕ} {after : List ℕ} → Wrote (active_begun seq a count (length before)) before (answer at) after → at + count ≤ length after
  begun_room {at} {after} w =
      let o = begun_opened w in
      let long = laid_counted (header seq SUCCESS a ++ byte count ∷ []) ∙ begun_size in
      let same : length after ≡ length before = rw o.put.left (length-sets before 0 (laid (header seq SUCCESS a ++ byte count ∷ []))) in
      omega (arith, o.put.moved, long, o.room)

  -- it was refused, and so is the reply
  pub begun_refused :
      (records : List EndpointDescriptor) {n : ℕ} {after : List ℕ}
      → (count ≤ 32 → length records ≡ count)
      → Wrote (active_begun seq a count (length before)) before (refusal n) after
      → Wrote (cond (leb count 32) (active_rsp_of seq a records) (refusal 1)) before (refusal n) after
  unfolding active_begun active_rsp_of numbers mapped fitted written says
  begun_refused records {n} {after} counted w = go (leb count 32) (leb (5 + count) (length before)) refl refl
    where
      go : (t u : Bool) → leb count 32 ≡ t → leb (5 + count) (length before) ≡ u → Wrote (cond (leb count 32) (active_rsp_of seq a records) (refusal 1)) before (refusal n) after
      go true true few room =
          let fits : 5 + count ≤ length before = leb-true _ _ room in
          let short : length (laid (header seq SUCCESS a ++ byte count ∷ [])) ≤ length before =
          rw (laid_counted (header seq SUCCESS a ++ byte count ∷ []), begun_size) (omega arith) in
          absurd (refused (rw (few, room, le-leb _ _ short) at w.said))
      go true false few full =
          let more : length before < 5 + count = leb-false _ _ full in
          let whole = list_full seq a (numbers records) before (rw (length-map, counted (leb-true _ _ few)) more) in
          let why : refusal n ≡ refusal 5 = rw (few, full) at w.said in
          let left : after ≡ before = rw (few, full) at w.left in
          rw (few, why, left) whole
      go false u many e = rw many (rw many at w)

-- ---- the list

-- the numbers of the first i records were put from a place on, and there was room for all
pub record Listed (records : List EndpointDescriptor) (i : ℕ) (s : List ℕ) (from at : ℕ) (t : List ℕ) : Type 0 where
  pub same : length t ≡ length s
  pub room : from + length records ≤ length s
  pub put : FieldsPut (map byte (numbers (take i records))) s from at t

-- of none, to begin with
pub listed_first : (records : List EndpointDescriptor) {s : List ℕ} {at : ℕ} → at + length records ≤ length s → Listed records 0 s at at s
unfolding numbers
listed_first records room = record { same = refl; room = room; put = run_put_none }

module _ {records : List EndpointDescriptor} {i from at : ℕ} {s t : List ℕ} (l : Listed records i s from at t) where
  -- there is room for the next
  pub listed_room : i < length records → at + 1 ≤ length t
  unfolding numbers
  listed_room h =
      let long : length (laid (map byte (numbers (take i records)))) ≡ i =
      laid_counted (map byte (numbers (take i records))) ∙ rw (size_entries 1 (map (λ e. e.endpoint) (take i records)), length-map, length-take-le i records (omega arith)) (omega arith) in
      omega (arith, l.put.moved, long, l.room, l.same)

  -- and that is put
  pub listed_next :
      (z : EndpointDescriptor) {k : ℕ} {u : List ℕ} → i < length records → FieldPut 1 (get_or records i z).endpoint t at k u → Listed records (i + 1) s from k u
  unfolding numbers
  listed_next z h q =
      record { same = rw (put_counted q) l.same; room = l.room; put = rw (add-one, take-suc records i z h, map-append, map-append) (run_put_last l.put q) }

  -- all of them behind header and count: the reply
  pub listed_end :
      (seq : ℕ) (a : ShortAddress) (count : ℕ) {before : List ℕ}
      → length records ≡ count
      → Wrote (active_begun seq a count (length before)) before (answer from) s
      → length records ≤ i
      → Wrote (cond (leb count 32) (active_rsp_of seq a records) (refusal 1)) before (says (Ok at)) t
  unfolding active_rsp_of list_rsp endpoint_list says numbers header size
  listed_end seq a count {before} counted w h =
      let o = begun_opened seq a count before w in
      let all : take i records ≡ records = take_all i records h in
      let counts : length (numbers records) ≡ count = rw length-map counted in
      let told : count ≡ min (length (numbers records)) 255 = omega (arith, o.few) in
      rw (le-leb _ _ o.few, ← told) (run_writes (rw append_assoc at (run_put_both o.put (rw all at l.put))) (omega (arith, size_entries 1 (numbers records), o.room)))

-- ---- the same of the records in use

-- there are as many as the count says
used_few : (d : DeviceDescriptorConfig) → length d.endpoints ≡ 32 → d.endpoint_count ≤ 32 → length (used d) ≡ d.endpoint_count
used_few d long few = omega (arith, used_counted d long)

-- what `active_ep_rsp` is, for lemmas that rewrite by it
pub active_checked : (seq : ℕ) (a : ShortAddress) (d : DeviceDescriptorConfig) → active_ep_rsp seq a d ≡ cond (leb d.endpoint_count 32) (active_rsp_of seq a (used d)) (refusal 1)
unfolding active_ep_rsp
active_checked seq a d = refl

module _ (seq : ℕ) (a : ShortAddress) (d : DeviceDescriptorConfig) (long : length d.endpoints ≡ 32) {before after : List ℕ} where
  -- refused as the beginning is
  pub used_refused :
      (r : Result ℕ Refusal) (why : Refusal)
      → Wrote (active_begun seq a d.endpoint_count (length before)) before (says (Err why)) after
      → IsErr r × IsErrAnd r (λ e. e ≡ why)
      → Wrote (active_ep_rsp seq a d) before (says r) after
  unfolding says
  used_refused r why w is =
      rw (passed r why is, active_checked seq a d) (begun_refused seq a d.endpoint_count before (used d) (used_few d long) w)

  module _ (from : ℕ) (w : Wrote (active_begun seq a d.endpoint_count (length before)) before (says (Ok from)) after) where
    begun : Wrote (active_begun seq a d.endpoint_count (length before)) before (answer from) after
    unfolding says
    begun = w

    -- at most 32
    pub used_count : d.endpoint_count ≤ 32
    used_count = (begun_opened seq a d.endpoint_count before begun).few

    -- of none, behind the beginning
    pub used_first : Listed (take d.endpoint_count d.endpoints) 0 after from from after
    unfolding used
    used_first = listed_first _ (rw (used_few d long used_count) (begun_room seq a d.endpoint_count before begun))

    -- of all of them
    pub used_writes :
        {i at : ℕ} {t : List ℕ}
        → Listed (take d.endpoint_count d.endpoints) i after from at t
        → length (take d.endpoint_count d.endpoints) ≤ i
        → Wrote (active_ep_rsp seq a d) before (says (Ok at)) t
    unfolding used
    used_writes u h = rw (active_checked seq a d) (listed_end u seq a d.endpoint_count (used_few d long used_count) begun h)
