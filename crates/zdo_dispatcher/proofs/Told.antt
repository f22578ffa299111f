-- What is told of a reply that a writer came to, and what a refusal leaves. Assumes nothing.
use Rattle.std.specs.Prelude.{Result, Ok, Err}
use Rattle.std.specs.Result.{IsErr, IsErrAnd}
use Prim.Native.Nat.{ℕ, ◌+◌, ◌^◌, ◌<◌, ◌≤◌}
use native.Mathlib.Omega.{arith}
use mathlib.Core.Path.{◌≡◌, refl}
use mathlib.Core.List.{List}
use lib.ListN.{length}
use mir.Syntax.{w16}
use mir.Val.{Fits}
use Rattle.zigbee_types.specs.Outcome.{Outcome, answer, refusal, mapped, fitted, written, Wrote}
use Rattle.zigbee_types.specs.Answers.{says}
use Rattle.zigbee_types.specs.declared.Refusal.{Refusal}
use Rattle.zigbee_types.proofs.Passed.{passed}
use Rattle.aps_binding_table.specs.declared.binding.BindingTable.{BindingTable}
use Rattle.zdo_requests.specs.Clusters.{reply_cluster}
use Rattle.zdo_dispatcher.specs.Answers.{reply, Told, replied, told_of, table_after, buffer_after, response_says, Dispatched}
use Rattle.zdo_dispatcher.specs.declared.dispatcher.Response.{Response}
use Rattle.zdo_dispatcher.specs.declared.dispatcher.Response.TheVariants as response

-- ---- by the writer's answer

module _ (cluster : ℕ) (w : Result ℕ Refusal) where
  -- the cluster of a reply is a number of two bytes, with any offset up to that of a reply
  pub cluster_fits : {n : ℕ} (offset : ℕ) → offset ≤ 0x8000 → ((k : ℕ) → says w ≡ answer k → cluster < 2 ^ 15) → w ≡ Ok n → Fits w16 (cluster + offset)
  unfolding says
  cluster_fits {n} offset few small e = let low = small n (rw e) in record { fits = omega arith }

  pub told_length : {n : ℕ} → w ≡ Ok n → response_says (Ok (response.Reply (cluster + 0x8000) n)) ≡ mapped (replied (reply_cluster cluster)) (says w)
  unfolding says response_says mapped
  told_length e = rw e

  pub told_refused :
      (r : Result Response Refusal) (why : Refusal)
      → w ≡ Err why
      → IsErr r × IsErrAnd r (λ e. e ≡ why)
      → response_says r ≡ mapped (replied (reply_cluster cluster)) (says w)
  unfolding says response_says mapped
  told_refused r why e p = rw (e, passed r why p)

-- ---- what is left

-- a refusal leaves table and buffer as they were
pub dispatched_refused : (why : Refusal) (t : BindingTable) (before : List ℕ) (n : ℕ) → response_says (Err why) ≡ refusal n → Dispatched (refusal n) t before (response_says (Err why)) t before
unfolding table_after buffer_after mapped
dispatched_refused why t before n e = record { said = e; table = refl; buffer = refl }

-- a reply that a writer came to, with the table u after it: u is left, or t where it was refused
pub dispatched_reply :
    (cluster : ℕ) (o : Outcome (List ℕ)) (u : BindingTable) {t v : BindingTable} {before after : List ℕ} {n : Outcome ℕ} {told : Outcome Told}
    → Wrote o before n after
    → told ≡ mapped (replied cluster) n
    → v ≡ table_after t (mapped (λ bytes. reply cluster bytes u) (fitted (length before) o))
    → Dispatched (mapped (λ bytes. reply cluster bytes u) (fitted (length before) o)) t before told v after
unfolding mapped written told_of table_after buffer_after
dispatched_reply cluster o u {t} {v} {before} {after} {n} {told} w e f = go (fitted (length before) o) w.said w.left f
  where
    go :
        (p : Outcome (List ℕ))
        → n ≡ mapped length p
        → after ≡ written before p
        → v ≡ table_after t (mapped (λ bytes. reply cluster bytes u) p)
        → Dispatched (mapped (λ bytes. reply cluster bytes u) p) t before told v after
    go (answer bytes) said left kept = record { said = rw (e, said); table = kept; buffer = left }
    go (refusal k) said left kept = record { said = rw (e, said); table = kept; buffer = left }

-- a reply that brings the table that was there leaves it, and so does a refusal
pub kept : (cluster : ℕ) (t : BindingTable) (o : Outcome (List ℕ)) → t ≡ table_after t (mapped (λ bytes. reply cluster bytes t) o)
unfolding mapped table_after
kept cluster t (answer bytes) = refl
kept cluster t (refusal n) = refl
