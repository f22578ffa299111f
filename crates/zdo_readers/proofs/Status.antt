-- Replies of a sequence number and a status: refused where there are fewer than two bytes, and read otherwise. `StatusReply::try_read` leans
-- on these. Assumes nothing.
use Rattle.std.specs.Prelude.{Ok, Err}
use Prim.Native.Nat.{ℕ, ◌≤◌, ◌<◌}
use mathlib.Core.Path.{◌≡◌, refl}
use mathlib.Core.List.{List}
use lib.ListN.{length}
use Rattle.zigbee_types.specs.Bytes.{FieldRead}
use Rattle.zigbee_types.specs.Layout.{size}
use Rattle.zigbee_types.specs.declared.Refusal.TheVariants.{Malformed}
use Rattle.zigbee_types.proofs.Runs.{two_parse, run_short}
use Rattle.zdo_readers.specs.Readers.{status_widths, status_reply_in}
use Rattle.zigbee_types.specs.Answers.{says}

module _ (bytes : List ℕ) where
  pub status_short : length bytes < 2 → says (Err Malformed) ≡ status_reply_in bytes
  unfolding says status_reply_in status_widths size
  status_short h = run_short status_widths bytes _ h

  pub status_parse :
      {u v i j : ℕ}
      → FieldRead 1 bytes 0 u i
      → FieldRead 1 bytes i v j
      → 2 ≤ length bytes
      → says (Ok (record { seq = u; status = v })) ≡ status_reply_in bytes
  unfolding says status_reply_in status_widths size
  status_parse p q h = two_parse _ p q h refl
