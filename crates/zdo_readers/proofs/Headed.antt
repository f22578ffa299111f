-- Replies that begin with the header: what follows from what its reader said, and a descriptor behind it. Assumes nothing.
use Rattle.std.specs.Prelude.{Result, Ok, Err}
use Rattle.std.specs.Result.{IsOkAnd, MatchResult}
use Prim.Native.Nat.{ℕ, ◌-◌, ◌≤◌}
use native.Mathlib.Omega.{arith}
use mathlib.Core.Path.{◌≡◌, sym}
use mathlib.Core.Bool.{true}
use mathlib.Core.List.{List}
use lib.ListN.{length, take, drop}
use lib.Dec.{eqb, leb}
use borrow.Author.Tests.{ne_eqb, leb-true}
use Rattle.zigbee_types.specs.Outcome.{Outcome, answer, and_then, mapped, needing}
use Rattle.zigbee_types.specs.Layout.{parsed, size}
use Rattle.zigbee_types.specs.Statuses.{SUCCESS}
use Rattle.zigbee_types.specs.declared.Refusal.{Refusal}
use Rattle.zigbee_types.proofs.Outcomes.{granted}
use Rattle.zigbee_types.proofs.Parts.{part_whole}
use Rattle.zdo_readers.specs.Readers.{header_widths, header_in, with_descriptor, without_descriptor, descriptor_reply_in}
use Rattle.zigbee_types.specs.Answers.{says}
use Rattle.zdo_readers.specs.declared.readers.ReplyHeader.{ReplyHeader}
use Rattle.zdo_readers.specs.declared.readers.DescriptorReply.{DescriptorReply}

-- what the reader of the header said
module _ (bytes : List ℕ) (h : ReplyHeader) (said : says (Ok h) ≡ header_in bytes) where
  -- a reply with one is what follows
  pub headed : {R : Type 0} (next : ReplyHeader → Outcome R) {told : Outcome R} → told ≡ next h → told ≡ and_then (header_in bytes) next
  unfolding says and_then
  headed next t = rw (← said) t

  -- and has four bytes
  pub header_long : {n : ℕ} → n ≤ 4 → n ≤ length bytes
  unfolding says header_in header_widths parsed size needing
  header_long few =
      let (held, _) = granted (leb 4 (length bytes)) _ 3 (sym said) in
      let long = leb-true 4 (length bytes) held in
      omega arith

  module _ {D : Type 0} (read_in : List ℕ → Outcome D) where
    -- with another status there is no descriptor
    pub described_none : {r : DescriptorReply D} → (h.status ≡ SUCCESS → ⊥) → r ≡ without_descriptor h → answer r ≡ descriptor_reply_in read_in bytes
    unfolding descriptor_reply_in
    described_none other is = headed _ (rw (ne_eqb _ _ other, is))

    -- with SUCCESS it is what is read from byte 4 on
    module _ (ok : h.status ≡ SUCCESS) where
      pub described_some :
          {d : Outcome D} {told : Outcome (DescriptorReply D)}
          → d ≡ read_in (take (length bytes - 4) (drop 4 bytes))
          → told ≡ mapped (with_descriptor h) d
          → told ≡ descriptor_reply_in read_in bytes
      unfolding descriptor_reply_in
      described_some read t =
          let yes : eqb h.status SUCCESS ≡ true = rw ok in
          headed _ (rw (yes, ← part_whole 4 bytes, ← read) t)

      -- and where that is made a reply of, it is this one
      pub described_made :
          (q : Result D Refusal) (r : Result (DescriptorReply D) Refusal) (P : D → DescriptorReply D → Type 0)
          → says q ≡ read_in (take (length bytes - 4) (drop 4 bytes))
          → ((d : D) (x : DescriptorReply D) → P d x → x ≡ with_descriptor h d)
          → MatchResult q (λ d. IsOkAnd r (P d)) (λ e. r ≡ Err e)
          → says r ≡ descriptor_reply_in read_in bytes
      unfolding says mapped
      described_made (Ok d) (Ok x) P read made p = described_some read (rw (made d x p))
      described_made (Ok d) (Err _) P read made p = absurd p
      described_made (Err why) r P read made e = described_some read (rw e)
