-- A leave request: an address or none, then flags by their masks. Assumes nothing.
use Rattle.std.specs.Prelude.{Option, Some, None, Ok}
use Prim.Native.Nat.{ℕ, ◌≤◌}
use mathlib.Core.Path.{◌≡◌}
use mathlib.Core.Bool.{not}
use mathlib.Core.List.{List}
use lib.Bits.{bit_and}
use lib.Dec.{eqb}
use lib.ListN.{length}
use borrow.Author.Tests.{ne_eqb}
use Rattle.zigbee_types.specs.Bytes.{FieldRead}
use Rattle.zigbee_types.specs.Addresses.{ieee_of}
use Rattle.zigbee_types.specs.declared.IeeeAddress.{IeeeAddress}
use Rattle.zigbee_types.proofs.Bits.{mask_tells}
use Rattle.zigbee_types.proofs.Runs.{three_parse}
use Rattle.zdo_requests.specs.Requests.{option_ieee, mgmt_leave_req_in}
use Rattle.zigbee_types.specs.Answers.{says}

-- an address of zero is none
pub address_none : {n : ℕ} → n ≡ 0 → None ≡ option_ieee n
unfolding option_ieee
address_none e = rw e

-- any other is one
pub address_some : {n : ℕ} → (n ≡ 0 → ⊥) → Some (ieee_of n) ≡ option_ieee n
unfolding option_ieee
address_some e = rw (ne_eqb _ _ e)

-- the flags are bits 6 and 7
pub leave_read :
    {bytes : List ℕ} {u v w i j k : ℕ} {device : Option IeeeAddress}
    → FieldRead 1 bytes 0 u i
    → FieldRead 8 bytes i v j
    → FieldRead 1 bytes j w k
    → 10 ≤ length bytes
    → device ≡ option_ieee v
    → says
    (Ok
    (record {
      seq = u;
      device_address = device;
      remove_children = not (eqb (bit_and w 64) 0);
      rejoin = not (eqb (bit_and w 128) 0);
    }))
    ≡ mgmt_leave_req_in bytes
unfolding says mgmt_leave_req_in
leave_read {w = w} p q r h e = three_parse _ p q r h (rw (e, mask_tells 6 w, mask_tells 7 w))
