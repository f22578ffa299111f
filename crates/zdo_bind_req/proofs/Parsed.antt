-- A bind request: the fields in front, then a destination by its mode. Assumes nothing.
use Rattle.std.specs.Prelude.{Result, Ok, Err}
use Rattle.std.specs.Result.{IsErr, IsErrAnd}
use Prim.Native.Nat.{ℕ, ◌+◌, ◌≤◌, ◌<◌}
use native.Mathlib.Omega.{arith}
use mathlib.Core.Path.{◌≡◌}
use mathlib.Core.List.{List, [], ◌∷◌}
use lib.ListN.{length}
use borrow.Author.Tests.{ne_eqb, le-leb, lt-leb}
use Rattle.zigbee_types.specs.Outcome.{mapped, needing}
use Rattle.zigbee_types.specs.Bytes.{FieldRead}
use Rattle.zigbee_types.specs.Addresses.{ieee_of, group_of}
use Rattle.zigbee_types.specs.declared.Refusal.{Refusal}
use Rattle.zigbee_types.specs.declared.Refusal.TheVariants.{Malformed}
use Rattle.zigbee_types.proofs.Fields.{number_at_past}
use Rattle.zigbee_types.proofs.Passed.{passed_mapped}
use Rattle.zigbee_types.proofs.Runs.{RunRead, run_read_none, run_read_more}
use Rattle.aps_binding.specs.Entry.{GROUP, DEVICE}
use Rattle.zdo_requests.specs.Requests.{group_in, device_in, destination_in, bind_widths, bind_req_of, bind_req_in}
use Rattle.zigbee_types.specs.Answers.{says}
use Rattle.zdo_requests.specs.declared.descriptor.BindReq.{BindReq}
use Rattle.zdo_requests.specs.declared.descriptor.BindReqDestination.{BindReqDestination}
use Rattle.zdo_requests.specs.declared.descriptor.BindReqDestination.TheVariants.{Group, Device}

module _ (bytes : List ℕ) (at : ℕ) where
  -- too few bytes for a group, or for a device
  pub group_short : length bytes < at + 2 → says (Err Malformed) ≡ group_in bytes at
  unfolding says group_in needing
  group_short h = rw (lt-leb _ _ h)

  pub device_short : length bytes < at + 9 → says (Err Malformed) ≡ device_in bytes at
  unfolding says device_in needing
  device_short h = rw (lt-leb _ _ h)

  -- a group that was read
  pub group_read :
      {v j : ℕ} → at + 2 ≤ length bytes → FieldRead 2 bytes at v j → says (Ok (Group (group_of v))) ≡ group_in bytes at
  unfolding says group_in needing
  group_read h p = rw (le-leb _ _ h, p.told)

  -- a device that was read
  pub device_read :
      {v w j k : ℕ}
      → at + 9 ≤ length bytes
      → FieldRead 8 bytes at v j
      → FieldRead 1 bytes j w k
      → says (Ok (Device (ieee_of v) w)) ≡ device_in bytes at
  unfolding says device_in needing
  device_read h p q = rw (le-leb _ _ h, p.told, q.told, p.moved)

  -- which it is, by the mode
  module _ {mode next : ℕ} (r : Result BindReqDestination Refusal) (p : FieldRead 1 bytes at mode next) where
    pub mode_group : mode ≡ GROUP → says r ≡ group_in bytes next → says r ≡ destination_in bytes at
    unfolding destination_in
    mode_group e said = rw (said, p.moved, ← p.told, e)

    pub mode_device : mode ≡ DEVICE → says r ≡ device_in bytes next → says r ≡ destination_in bytes at
    unfolding destination_in
    mode_device e said = rw (said, p.moved, ← p.told, e)

  pub mode_other :
      {mode next : ℕ}
      → FieldRead 1 bytes at mode next
      → (mode ≡ GROUP → ⊥)
      → (mode ≡ DEVICE → ⊥)
      → says (Err Malformed) ≡ destination_in bytes at
  unfolding says destination_in
  mode_other p e f = rw (← p.told, ne_eqb _ _ e, ne_eqb _ _ f)

-- too few bytes for a mode
pub bind_short : (bytes : List ℕ) → length bytes < 13 → says (Err Malformed) ≡ bind_req_in bytes
unfolding says bind_req_in destination_in mapped
bind_short bytes h = rw (number_at_past 1 bytes 12 (omega arith))

-- the fields in front, and what the reader of the destination behind them said
module _
    {bytes : List ℕ} {u v w x i j k l : ℕ}
    (p : FieldRead 1 bytes 0 u i)
    (q : FieldRead 8 bytes i v j)
    (r : FieldRead 1 bytes j w k)
    (s : FieldRead 2 bytes k x l) where
  there : l ≡ 12
  there = omega (arith, p.moved, q.moved, r.moved, s.moved)

  pub bind_read :
      (d : BindReqDestination)
      → says (Ok d) ≡ destination_in bytes l
      → says
      (Ok (record { seq = u; src_address = ieee_of v; src_endpoint = w; cluster_id = x; destination = d }))
      ≡ bind_req_in bytes
  unfolding says bind_req_in bind_widths bind_req_of mapped
  bind_read d said =
      let run : RunRead bind_widths bytes 0 (u ∷ v ∷ w ∷ x ∷ []) =
      run_read_more p (run_read_more q (run_read_more r (run_read_more s run_read_none))) in
      rw (← (rw there at said), ← run.told)

  pub bind_refused :
      (why : Refusal) (refused : Result BindReq Refusal)
      → says {A = BindReqDestination} (Err why) ≡ destination_in bytes l
      → IsErr refused × IsErrAnd refused (λ e. e ≡ why)
      → says refused ≡ bind_req_in bytes
  unfolding bind_req_in
  bind_refused why refused said handed = passed_mapped refused why (rw there at said) handed _
