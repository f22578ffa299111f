-- Replies that begin with the two addresses. Assumes nothing.
use Rattle.std.specs.Prelude.{Ok, Err}
use Prim.Native.Nat.{ℕ, ◌≤◌, ◌<◌}
use mathlib.Core.Path.{◌≡◌}
use mathlib.Core.Bool.{Bool, true, false, not}
use mathlib.Core.List.{List}
use lib.ListN.{length}
use borrow.Author.Tests.{not-true, not-false}
use Rattle.zigbee_types.specs.Outcome.{Outcome, Wrote}
use Rattle.zigbee_types.specs.Answers.{says}
use Rattle.zigbee_types.specs.Bytes.{FieldPut}
use Rattle.zigbee_types.specs.Layout.{size, FieldsPut}
use Rattle.zigbee_types.specs.Statuses.{SUCCESS}
use Rattle.zigbee_types.specs.declared.IeeeAddress.{IeeeAddress}
use Rattle.zigbee_types.specs.declared.Refusal.TheVariants.{ShortBuffer}
use Rattle.zigbee_types.specs.declared.ShortAddress.{ShortAddress}
use Rattle.zigbee_types.proofs.Runs.{run_put_one, run_put_more, run_put_both, run_writes, run_full}
use Rattle.zdo_replies.specs.Replies.{addr_header, addr_rsp_single, addr_rsp_extended, addr_rsp}

-- nothing behind them
pub single_writes :
    (seq status : ℕ) (l : IeeeAddress) (a : ShortAddress) {s t : List ℕ} {m : ℕ}
    → FieldsPut (addr_header seq status l a) s 0 m t
    → 12 ≤ length s
    → Wrote (addr_rsp_single seq status l a) s (says (Ok m)) t
unfolding addr_rsp_single says addr_header size
single_writes seq status l a p h = run_writes p h

module _ (seq : ℕ) (l : IeeeAddress) (a : ShortAddress) (extended : Bool) {s : List ℕ} where
  -- a reply that is not extended
  pub addr_single :
      {r : Outcome ℕ} {t : List ℕ} → not extended ≡ true → Wrote (addr_rsp_single seq SUCCESS l a) s r t → Wrote (addr_rsp seq l a extended) s r t
  unfolding addr_rsp
  addr_single e w = rw (not-true extended e) w

  -- one that is
  module _ (e : not extended ≡ false) where
    pub extended_full : length s < 14 → Wrote (addr_rsp seq l a extended) s (says (Err ShortBuffer)) s
    unfolding addr_rsp addr_rsp_extended addr_header says size
    extended_full h = rw (not-false extended e) (run_full _ s h)

    -- two zeros behind them
    pub extended_writes :
        {k m n : ℕ} {t u v : List ℕ}
        → FieldsPut (addr_header seq SUCCESS l a) s 0 m t
        → FieldPut 1 0 t m n u
        → FieldPut 1 0 u n k v
        → 14 ≤ length s
        → Wrote (addr_rsp seq l a extended) s (says (Ok k)) v
    unfolding addr_rsp addr_rsp_extended addr_header says size
    extended_writes p q r h = rw (not-false extended e) (run_writes (run_put_both p (run_put_more q (run_put_one r))) h)
