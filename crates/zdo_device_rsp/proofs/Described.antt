-- The simple reply: the descriptor is written into a scratch, and then handed on as a list of bytes. Assumes nothing.
use Rattle.std.specs.Prelude.{Option, Some, None, Result, Ok, Err}
use Rattle.std.specs.Option.{is_some, IfSome}
use Rattle.std.specs.Result.{IsErr, IsErrAnd}
use Prim.Native.Nat.{ℕ, ◌%◌, ◌/◌, ◌≤◌, ◌<◌, min, zero, suc}
use native.Mathlib.Nat.{mod-eq_of_lt}
use native.Mathlib.Omega.{arith}
use mathlib.Core.Path.{◌≡◌, refl, sym}
use mathlib.Core.Bool.{Bool, true, false}
use mathlib.Core.List.{List, [], ◌∷◌, ◌++◌, map, map-append, append-nil, append_assoc}
use lib.Dec.{leb}
use lib.ListN.{length, take, drop, length-take}
use lib.Seq.{take_at}
use borrow.Author.Tests.{leb-true, le-leb}
use Rattle.zigbee_types.specs.Outcome.{Outcome, answer, and_then, mapped, fitted, written, Wrote}
use Rattle.zigbee_types.specs.Answers.{says}
use Rattle.zigbee_types.specs.Bytes.{le}
use Rattle.zigbee_types.specs.Layout.{Field, byte, laid}
use Rattle.zigbee_types.specs.Lists.{option}
use Rattle.zigbee_types.specs.Statuses.{SUCCESS, NOT_ACTIVE}
use Rattle.zigbee_types.specs.declared.Refusal.{Refusal}
use Rattle.zigbee_types.specs.declared.Refusal.TheVariants.{BadTables}
use Rattle.zigbee_types.specs.declared.ShortAddress.{ShortAddress}
use Rattle.zigbee_types.proofs.Outcomes.{refused, granted, wrote_refused, wrote_answer}
use Rattle.zigbee_types.proofs.Outcomes as outcomes
use Rattle.zigbee_types.proofs.Passed.{passed}
use Rattle.zigbee_types.proofs.Runs.{laid_append}
use Rattle.simple_descriptor.specs.SimpleDescriptor.{Endpoint, endpoint_with, simple_descriptor_of, cluster_count, simple_written}
use Rattle.simple_descriptor.proofs.Written.{simple_length}
use Rattle.zdo_replies.specs.Replies.{header, endpoint_list, list_rsp, empty_rsp, described_rsp}
use Rattle.zdo_device.specs.Tables.{Pools, endpoint_record, good_device, endpoint_of, clusters_of}
use Rattle.zdo_device.specs.Checked.{pools_of}
use Rattle.zdo_device.specs.declared.tables.Tables.{Tables}
use Rattle.zdo_device.specs.declared.descriptor.EndpointDescriptor.{EndpointDescriptor}
use Rattle.zdo_device.specs.declared.descriptor.DeviceDescriptorConfig.{DeviceDescriptorConfig}
use Rattle.zdo_device.specs.declared.descriptor.Side.TheVariants.{Input, Output}
use Rattle.zdo_device_rsp.specs.TableReplies.{simple_rsp_of, simple_desc_rsp}

-- ---- bytes as fields of one byte

-- the bytes of a number are below 256, so as fields they are themselves
bytes_again : (k x : ℕ) → laid (map byte (le k x)) ≡ le k x
unfolding laid le
bytes_again zero x = refl
bytes_again (suc k) x = let low : x % 256 < 256 = omega arith in rw (mod-eq_of_lt low, bytes_again k (x / 256))

-- and so are those of any fields
laid_again : (fs : List Field) → laid (map byte (laid fs)) ≡ laid fs
unfolding laid
laid_again [] = refl
laid_again (f ∷ fs) = rw (map-append, laid_append, bytes_again, laid_again fs)

-- so at most 255 of them behind their number are a list of endpoints, to look at
pub as_list :
    (seq : ℕ) (a : ShortAddress) (fs : List Field)
    → length (laid fs) ≤ 255
    → answer (laid (header seq SUCCESS a ++ byte (length (laid fs)) ∷ []) ++ laid fs) ≡ list_rsp seq a (laid fs)
unfolding list_rsp endpoint_list laid
as_list seq a fs h =
    let all : min (length (laid fs)) 255 ≡ length (laid fs) = omega arith in
    rw (all, laid_append, laid_append, laid_again fs, append_assoc, append-nil)

-- ---- the descriptor in the scratch

-- an endpoint's descriptor stands in the first n bytes
pub record Stands (e : Endpoint) (n : ℕ) (scratch : List ℕ) : Type 0 where
  pub few : cluster_count e ≤ 28
  pub long : n ≡ length (laid (simple_descriptor_of e))
  pub front : take n scratch ≡ laid (simple_descriptor_of e)

-- so it does where bytes stand there that are the descriptor's
stands_in :
    {e : Endpoint} {bytes before after : List ℕ} {n : ℕ}
    → simple_written e ≡ answer bytes
    → outcomes.Stands bytes before n after
    → Stands e n after
unfolding simple_written
stands_in {e} {bytes} {before} {after} {n} told there =
    let (few, is) = granted (leb (cluster_count e) 28) (answer (laid (simple_descriptor_of e))) 4 told in
    let same : laid (simple_descriptor_of e) ≡ bytes = cc in
    record {
      few = leb-true _ _ few;
      long = rw same there.long;
      front = rw (same, there.left) (take_at bytes (drop (length bytes) before) n (sym there.long));
    }

-- a writer that told a length left it there
pub desc_stands : (e : Endpoint) {before after : List ℕ} {n : ℕ} → Wrote (simple_written e) before (says (Ok n)) after → Stands e n after
unfolding says
desc_stands e w = let (bytes, told, there) = wrote_answer (simple_written e) w in stands_in told there

module _ {e : Endpoint} {n : ℕ} {scratch : List ℕ} (s : Stands e n scratch) where
  -- there are so many bytes
  pub desc_long : n ≡ length (take n scratch)
  desc_long = rw s.front s.long

  -- within the scratch
  pub desc_within : n ≤ length scratch
  desc_within = omega (arith, rw length-take at desc_long)

module _ (seq : ℕ) (a : ShortAddress) (e : Endpoint) where
  -- handed on as a list, it is the reply
  pub desc_replied :
      {n : ℕ} {scratch before after : List ℕ} {told : Outcome ℕ}
      → Stands e n scratch
      → Wrote (list_rsp seq a (take n scratch)) before told after
      → Wrote (described_rsp seq a e) before told after
  unfolding described_rsp simple_written and_then
  desc_replied s w =
      let short : length (laid (simple_descriptor_of e)) ≤ 255 = omega (arith, s.few, simple_length e) in
      rw (le-leb _ _ s.few, as_list seq a (simple_descriptor_of e) short, ← s.front) w

  -- where a writer with room for 64 bytes refused, so is the reply, and by the same number
  pub desc_refused :
      {before after : List ℕ} (r : Result ℕ Refusal) (why : Refusal) (out : List ℕ)
      → Wrote (simple_written e) before (says (Err why)) after
      → IsErr r × IsErrAnd r (λ e. e ≡ why)
      → 64 ≤ length before
      → Wrote (described_rsp seq a e) out (says r) out
  unfolding says simple_written described_rsp and_then mapped fitted written
  desc_refused {before} {after} r why out w is room = rw (passed r why is) (go (leb (cluster_count e) 28) refl)
    where
      go : (few : Bool) → leb (cluster_count e) 28 ≡ few → Wrote (described_rsp seq a e) out (says (Err why)) out
      go true t =
          let short = leb-true (cluster_count e) 28 t in
          let fits : length (laid (simple_descriptor_of e)) ≤ length before = omega (arith, simple_length e) in
          absurd (refused (rw (t, le-leb _ _ fits) at w.said))
      go false t = let said = rw t at w.said in record { said = rw t said; left = rw t }

-- ---- the record

-- a record with its own clusters is the endpoint that it says
pub own_written :
    (p : Pools) (e : EndpointDescriptor) {own own' before after : List ℕ} {told : Outcome ℕ}
    → own ≡ clusters_of Input (endpoint_of p e)
    → own' ≡ clusters_of Output (endpoint_of p e)
    → Wrote (simple_written (endpoint_with e.endpoint e.profile_id e.device_id e.device_version own own')) before told after
    → Wrote (simple_written (endpoint_of p e)) before told after
unfolding clusters_of endpoint_of
own_written p e ins outs w = rw (ins, outs) at w

module _ (seq : ℕ) (a : ShortAddress) (p : Pools) (d : DeviceDescriptorConfig) (n : ℕ) {before after : List ℕ} {told : Outcome ℕ} where
  module _ {q : Option EndpointDescriptor} (f : q ≡ endpoint_record d n) where
    -- the first record with the number answers
    pub simple_found :
        {e : EndpointDescriptor}
        → q ≡ Some e
        → Wrote (described_rsp seq a (endpoint_of p e)) before told after
        → Wrote (simple_rsp_of seq a p d n) before told after
    unfolding simple_rsp_of option
    simple_found is w = rw (← f, is) w

    -- there is none
    pub simple_none : q ≡ None → Wrote (empty_rsp seq NOT_ACTIVE a) before told after → Wrote (simple_rsp_of seq a p d n) before told after
    unfolding simple_rsp_of option
    simple_none is w = rw (← f, is) w

-- the tables were checked
module _ (seq : ℕ) (a : ShortAddress) (p : Pools) (d : DeviceDescriptorConfig) (n : ℕ) {r : Option Tables} (found : is_some r ≡ good_device p d) where
  -- good tables
  pub simple_good :
      {t : Tables} {before after : List ℕ} {told : Outcome ℕ}
      → r ≡ Some t
      → IfSome r (λ t. (t.device.now ≡ d) × (pools_of t.pools ≡ p))
      → Wrote (simple_rsp_of seq a (pools_of t.pools) t.device.now n) before told after
      → Wrote (simple_desc_rsp seq a p d n) before told after
  unfolding simple_desc_rsp
  simple_good is same w =
      let there = rw is at same in
      rw (← found, is) (rw (there.0, there.1) at w)

  -- and others: refusal 1
  pub simple_bad : (out : List ℕ) → r ≡ None → Wrote (simple_desc_rsp seq a p d n) out (says (Err BadTables)) out
  unfolding simple_desc_rsp says
  simple_bad out none = rw (← found, none) (wrote_refused 1 out)
