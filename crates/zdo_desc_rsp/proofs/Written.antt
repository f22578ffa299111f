-- Replies with a header, and what stands behind it. Assumes nothing.
use Rattle.std.specs.Prelude.{Result, Ok, Err}
use Prim.Native.Nat.{ℕ, ◌+◌, ◌-◌, ◌^◌, ◌≤◌, ◌<◌}
use native.Mathlib.Omega.{arith}
use mathlib.Core.Path.{◌≡◌}
use mathlib.Core.List.{List, ◌++◌}
use lib.Dec.{T, ltb, ltb→lt}
use lib.ListN.{length}
use lib.Seq.{length-sets}
use mir.Syntax.{w64}
use mir.Val.{Fits}
use borrow.Rule.Slice.PartMut.{mid_of, put_mid}
use Rattle.zigbee_types.specs.Outcome.{answer, mapped, Wrote}
use Rattle.zigbee_types.specs.Answers.{says}
use Rattle.zigbee_types.specs.Bytes.{le, FieldPut}
use Rattle.zigbee_types.specs.Layout.{Field, laid, size, FieldsPut}
use Rattle.zigbee_types.specs.FieldLaws.{widths}
use Rattle.zigbee_types.specs.Statuses.{SUCCESS}
use Rattle.zigbee_types.specs.declared.Refusal.{Refusal}
use Rattle.zigbee_types.specs.declared.Refusal.TheVariants.{ShortBuffer}
use Rattle.zigbee_types.specs.declared.ShortAddress.{ShortAddress}
use Rattle.zigbee_types.proofs.Layouts.{laid_counted}
use Rattle.zigbee_types.proofs.Outcomes.{refused, wrote_bytes}
use Rattle.zigbee_types.proofs.Parts.{part_told, part_put}
use Rattle.zigbee_types.proofs.Runs.{run_put_last, run_put_both, run_writes, run_full}
use Rattle.zdo_replies.specs.Replies.{header, descriptor_rsp_error, empty_rsp}

-- ---- behind the header

module _ (seq status : ℕ) (a : ShortAddress) {s t : List ℕ} {m : ℕ} (p : FieldsPut (header seq status a) s 0 m t) where
  -- it has four bytes
  pub header_place : m ≡ 4
  unfolding header laid le
  header_place = p.moved

  -- nothing: an error of node or power
  pub error_writes : 4 ≤ length s → Wrote (descriptor_rsp_error seq status a) s (says (Ok m)) t
  unfolding descriptor_rsp_error says header size
  error_writes h = run_writes p h

  -- a zero: an error of active or simple
  pub empty_writes :
      {n : ℕ} {u : List ℕ} → FieldPut 1 0 t m n u → 5 ≤ length s → Wrote (empty_rsp seq status a) s (says (Ok n)) u
  unfolding empty_rsp says header size
  empty_writes q h = run_writes (run_put_last p q) h

-- where the writer of the later part told a length, the sum is one that the machine has
pub whole_fits :
    (m : ℕ) (r : Result ℕ Refusal) {n : ℕ} → ((k : ℕ) → says r ≡ answer k → m + k < 2 ^ 64) → r ≡ Ok n → Fits w64 (m + n)
unfolding says
whole_fits m r {n} small e = record { fits = small n (rw e) }

-- and it is what is told of the whole
pub whole_length : (m : ℕ) (r : Result ℕ Refusal) {n : ℕ} → r ≡ Ok n → says (Ok (m + n)) ≡ mapped (λ n. m + n) (says r)
unfolding says mapped
whole_length m r e = rw e

-- a descriptor: refused where there is no room for it
pub described_full :
    (seq : ℕ) (a : ShortAddress) (fs : List Field) (s : List ℕ)
    → length s < 4 + size (widths fs)
    → Wrote (answer (laid (header seq SUCCESS a ++ fs))) s (says (Err ShortBuffer)) s
unfolding says header size
described_full seq a fs s h = run_full (header seq SUCCESS a ++ fs) s (omega (arith, h))

-- a length that the descriptor's writer tells is one that the machine has behind the header
pub described_bounded :
    (fs : List Field) {m : ℕ} {part v : List ℕ} (r : Result ℕ Refusal)
    → m ≡ 4
    → Wrote (answer (laid fs)) part (says r) v
    → T (ltb (4 + size (widths fs)) (2 ^ 64))
    → (n : ℕ) → says r ≡ answer n → m + n < 2 ^ 64
described_bounded fs {m} r place w h n e =
    let stands = wrote_bytes (rw e at w) in
    let sum : m + n ≡ 4 + size (widths fs) = omega (arith, place, stands.long, laid_counted fs) in
    rw sum (ltb→lt _ _ h)

-- otherwise written, by a writer that was lent what is behind the header
module _
    (seq : ℕ)
    (a : ShortAddress)
    (fs : List Field)
    {s t : List ℕ}
    {m : ℕ}
    (p : FieldsPut (header seq SUCCESS a) s 0 m t)
    (room : 4 + size (widths fs) ≤ length s) where
  fits : m + length (laid fs) ≤ length t
  fits =
      let same : length t ≡ length s = rw p.left (length-sets s 0 (laid (header seq SUCCESS a))) in
      omega (arith, header_place seq SUCCESS a p, laid_counted fs)

  -- the descriptor is not refused
  pub described_told : {v : List ℕ} (why : Refusal) → Wrote (answer (laid fs)) (mid_of m (length t - m) t) (says (Err why)) v → ⊥
  unfolding says
  described_told why w = refused (part_told m t (laid fs) fits w)

  module _ {v : List ℕ} (n : ℕ) (w : Wrote (answer (laid fs)) (mid_of m (length t - m) t) (says (Ok n)) v) where
    all : n ≡ length (laid fs)
    unfolding says
    all = let stands = wrote_bytes w in stands.long

    -- the length of the whole is one that the machine has
    pub described_fits : T (ltb (4 + size (widths fs)) (2 ^ 64)) → Fits w64 (m + n)
    described_fits h =
        let sum : m + n ≡ 4 + size (widths fs) = omega (arith, header_place seq SUCCESS a p, all, laid_counted fs) in
        record { fits = rw sum (ltb→lt _ _ h) }

    -- and the reply is the header and the descriptor
    pub described_writes : Wrote (answer (laid (header seq SUCCESS a ++ fs))) s (says (Ok (m + n))) (put_mid m (length t - m) t v)
    unfolding header size says
    described_writes = rw all (run_writes (run_put_both p (part_put m t fs fits (rw all at w))) (omega (arith, room)))
