-- What stands in a reply of SUCCESS that is long enough: the server mask, and what an extended address reply adds. Assumes nothing.
use Rattle.std.specs.Prelude.{Option, Some, None, Ok}
use Prim.Native.Nat.{ℕ, ◌-◌, ◌/◌, ◌≤◌, ◌<◌}
use native.Mathlib.Omega.{arith}
use mathlib.Core.Path.{◌≡◌}
use mathlib.Core.Bool.{Bool, true, false, and-false}
use mathlib.Core.List.{List}
use lib.ListN.{length}
use borrow.Author.Tests.{ne_eqb, le-leb, lt-leb}
use Rattle.zigbee_types.specs.Bytes.{FieldRead}
use Rattle.zigbee_types.specs.Statuses.{SUCCESS}
use Rattle.zigbee_types.specs.Addresses.{ieee_of, short_of}
use Rattle.zigbee_types.specs.Layout.{size}
use Rattle.zigbee_types.proofs.Runs.{run_read_none, run_read_more, run_parses, three_parse}
use Rattle.zdo_readers.specs.Readers.{goes_further, header_widths, addr_widths, server_mask_in, node_desc_rsp_in, associated_in, addr_reply_in}
use Rattle.zigbee_types.specs.Answers.{says}
use Rattle.zdo_readers.specs.declared.readers.Associated.{Associated}

-- ---- whether it goes on

module _ (status : ℕ) (bytes : List ℕ) where
  pub other_status : SUCCESS < status → goes_further status bytes ≡ false
  other_status h = let other : status ≡ SUCCESS → ⊥ = λ e. omega (arith, e) in rw (ne_eqb _ _ other)

  pub too_short : length bytes < 14 → goes_further status bytes ≡ false
  too_short h = rw (lt-leb _ _ h, and-false)

  pub success : status ≡ SUCCESS → 14 ≤ length bytes → goes_further status bytes ≡ true
  success e h = rw (e, le-leb _ _ h)

-- ---- what is read where it holds, and where it does not

module _ {test : Bool} (bytes : List ℕ) where
  pub mask_none : test ≡ false → None ≡ server_mask_in test bytes
  unfolding server_mask_in
  mask_none e = rw e

  pub mask_some : {v j : ℕ} → test ≡ true → FieldRead 2 bytes 12 v j → Some v ≡ server_mask_in test bytes
  unfolding server_mask_in
  mask_some e p = rw (e, p.told)

  pub associated_none : test ≡ false → None ≡ associated_in test bytes
  unfolding associated_in
  associated_none e = rw e

  pub associated_some :
      {u v j k : ℕ}
      → test ≡ true
      → FieldRead 1 bytes 12 u j
      → FieldRead 1 bytes j v k
      → Some (record { num_assoc_dev = u; start_index = v; devices = record { start = k; count = (length bytes - k) / 2 } })
      ≡ associated_in test bytes
  unfolding associated_in
  associated_some e p q = rw (e, p.told, q.told, q.moved, p.moved)

-- what `server_mask` and `read_associated` lean on: another test of the same meaning is proved too
pub ruleset mask_laws = (other_status, too_short, success, mask_none, mask_some)

pub ruleset associated_laws = (other_status, too_short, success, associated_none, associated_some)

-- ---- behind the fields in front

module _ {bytes : List ℕ} where
  pub mask_parse :
      {u v w i j k : ℕ} {m : Option ℕ}
      → FieldRead 1 bytes 0 u i
      → FieldRead 1 bytes i v j
      → FieldRead 2 bytes j w k
      → m ≡ server_mask_in (goes_further v bytes) bytes
      → 4 ≤ length bytes
      → says (Ok (record { seq = u; status = v; nwk_addr_of_interest = short_of w; server_mask = m })) ≡ node_desc_rsp_in bytes
  unfolding says node_desc_rsp_in header_widths
  mask_parse p q r e h = three_parse _ p q r h (rw e)

  pub addr_parse :
      {u v w x i j k l : ℕ} {o : Option Associated}
      → FieldRead 1 bytes 0 u i
      → FieldRead 1 bytes i v j
      → FieldRead 8 bytes j w k
      → FieldRead 2 bytes k x l
      → o ≡ associated_in (goes_further v bytes) bytes
      → 12 ≤ length bytes
      → says (Ok (record { seq = u; status = v; ieee_addr = ieee_of w; nwk_addr = short_of x; associated = o })) ≡ addr_reply_in bytes
  unfolding says addr_reply_in addr_widths size
  addr_parse p q r s e h = rw e (run_parses _ (run_read_more p (run_read_more q (run_read_more r (run_read_more s run_read_none)))) h)
