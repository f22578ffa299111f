-- Two counted lists in a frame: where they stand, and why they are refused. Assumes nothing.
use Rattle.std.specs.Prelude.{Ok, Err}
use Prim.Native.Nat.{ℕ, ◌+◌, ◌*◌, ◌≤◌, ◌<◌}
use native.Mathlib.Omega.{arith}
use mathlib.Core.Path.{◌≡◌, refl, sym}
use mathlib.Core.List.{List}
use lib.Dec.{leb}
use lib.ListN.{length}
use borrow.Author.Tests.{leb-true, le-leb, lt-leb}
use Rattle.zigbee_types.specs.Outcome.{needing}
use Rattle.zigbee_types.specs.Bytes.{FieldRead}
use Rattle.zigbee_types.specs.Layout.{counted, behind, ListRead, lists_in}
use Rattle.zigbee_types.specs.Answers.{says}
use Rattle.zigbee_types.specs.declared.Refusal.TheVariants.{Malformed}
use Rattle.zigbee_types.specs.declared.Places.{Places}
use Rattle.zigbee_types.specs.declared.ClusterLists.{ClusterLists}
use Rattle.zigbee_types.proofs.Outcomes.{granted}

-- a byte that was read counts the list behind it
pub list_counted :
    {bytes : List ℕ} {at v m : ℕ} (w : ℕ) → FieldRead 1 bytes at v m → ListRead w bytes at (record { start = m; count = v }) (m + w * v)
unfolding counted behind
list_counted w p = record { told = rw (p.told, p.moved); moved = refl }

-- there is a list at each place, if only an empty one past the end
list_there : (w : ℕ) (bytes : List ℕ) (at : ℕ) → ListRead w bytes at (counted bytes at) (behind w (counted bytes at))
list_there w bytes at = record { told = refl; moved = refl }

-- and it ends past that place
list_past : (w : ℕ) {bytes : List ℕ} {at n : ℕ} {p : Places} → ListRead w bytes at p n → at < n
unfolding counted behind
list_past w p = rw (p.moved, p.told) (omega arith)

module _ (bytes : List ℕ) (at : ℕ) where
  -- refused where the second list ends past the end
  pub lists_cut :
      {m n : ℕ} {p q : Places}
      → ListRead 2 bytes at p m
      → ListRead 2 bytes m q n
      → length bytes < n
      → says (Err Malformed) ≡ lists_in bytes at
  unfolding says lists_in needing
  lists_cut p q h = rw (← p.told, ← p.moved, ← q.told, ← q.moved, lt-leb _ _ h)

  -- also where the second count does
  pub lists_one : {m : ℕ} {p : Places} → ListRead 2 bytes at p m → length bytes ≤ m → says (Err Malformed) ≡ lists_in bytes at
  lists_one {m} p h = let q = list_there 2 bytes m in lists_cut p q (omega (arith, list_past 2 q))

  -- and where the first does
  pub lists_none : length bytes ≤ at → says (Err Malformed) ≡ lists_in bytes at
  lists_none h = let p = list_there 2 bytes at in lists_one p (omega (arith, list_past 2 p))

  -- otherwise they stand there
  pub lists_whole :
      {m n : ℕ} {p q : Places}
      → ListRead 2 bytes at p m
      → ListRead 2 bytes m q n
      → n ≤ length bytes
      → says (Ok (record { input_clusters = p; output_clusters = q })) ≡ lists_in bytes at
  unfolding says lists_in needing
  lists_whole p q h = rw (← p.told, ← p.moved, ← q.told, ← q.moved, le-leb _ _ h)

  -- so the counts of lists that were read are there
  pub lists_long : (lists : ClusterLists) → says (Ok lists) ≡ lists_in bytes at → at + 2 ≤ length bytes
  unfolding says lists_in needing
  lists_long lists h =
      let first : ℕ = behind 2 (counted bytes at) in
      let last : ℕ = behind 2 (counted bytes first) in
      let (held, _) = granted (leb last (length bytes)) _ 3 (sym h) in
      omega (arith, leb-true last (length bytes) held, list_past 2 (list_there 2 bytes at), list_past 2 (list_there 2 bytes first))
