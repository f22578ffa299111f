-- Bytes behind a place of a buffer, and a list of bytes behind the header. Assumes nothing.
use Rattle.std.specs.Prelude.{Ok, Err, slice_index_or}
use Prim.Native.Nat.{ℕ, suc, ◌+◌, ◌-◌, ◌%◌, ◌≤◌, ◌<◌, min}
use native.Mathlib.Omega.{arith}
use mathlib.Core.Path.{◌≡◌, refl, sym, ◌∙◌}
use mathlib.Core.List.{List, [], ◌∷◌, ◌++◌, map, append_assoc}
use lib.ListN.{length, take, drop, length-append}
use lib.Seq.{sets, sets-eq, length-sets, length-take-le, drop-drop}
use mir.Syntax.{w8}
use mir.Val.{Fits}
use borrow.Rule.Slice.PartMut.{put_mid}
use borrow.Author.Tests.{le-leb, lt-leb}
use Rattle.zigbee_types.specs.Outcome.{Outcome, answer, mapped, fitted, written, Wrote}
use Rattle.zigbee_types.specs.Answers.{says}
use Rattle.zigbee_types.specs.Bytes.{le, FieldPut}
use Rattle.zigbee_types.specs.Layout.{byte, laid, size, FieldsPut}
use Rattle.zigbee_types.specs.FieldLaws.{widths}
use Rattle.zigbee_types.specs.Statuses.{SUCCESS}
use Rattle.zigbee_types.specs.declared.Refusal.TheVariants.{ShortBuffer}
use Rattle.zigbee_types.specs.declared.ShortAddress.{ShortAddress}
use Rattle.zigbee_types.proofs.Fields.{put_counted}
use Rattle.zigbee_types.proofs.Layouts.{laid_counted, size_entries}
use Rattle.zigbee_types.proofs.Runs.{run_put_told, run_put_both, run_writes, run_full}
use Rattle.zdo_desc_rsp.proofs.Written.{header_place}
use Rattle.zdo_replies.specs.Replies.{header, endpoint_list, list_rsp}

-- ---- bytes behind a place

-- a list of bytes is what is laid of it
laid_same : (xs : List ℕ) → ((i : ℕ) → Fits w8 (slice_index_or xs i 0)) → laid (map byte xs) ≡ xs
unfolding laid le
laid_same [] bytes = refl
laid_same (x ∷ xs) bytes =
    let same : x % 256 ≡ x = omega (arith, (bytes 0).fits) in
    rw (same, laid_same xs (λ i. bytes (suc i)))

module _ (at : ℕ) (s xs : List ℕ) (h : at ≤ length s) where
  bytes_long : length (laid (map byte xs)) ≡ length xs
  bytes_long = rw (laid_counted, size_entries 1 xs) (omega arith)

  front_long : length (take at s ++ laid (map byte xs)) ≡ at + length xs
  front_long = rw (length-append, length-take-le at s h, bytes_long)

  -- refused where there is no room
  pub append_full : length s - at < length xs → Wrote (answer (take at s ++ laid (map byte xs))) s (says (Err ShortBuffer)) s
  unfolding says mapped fitted written
  append_full l =
      let full : length s < length (take at s ++ laid (map byte xs)) = rw front_long (omega arith) in
      record { said = rw (lt-leb _ _ full); left = rw (lt-leb _ _ full) }

  module _ (room : at + length xs ≤ length s) where
    fits : length (take at s ++ laid (map byte xs)) ≤ length s
    fits = rw front_long room

    there : sets s at (laid (map byte xs)) ≡ (take at s ++ laid (map byte xs)) ++ drop (length (take at s ++ laid (map byte xs))) s
    there = rw (front_long, sets-eq (laid (map byte xs)) s at (rw bytes_long room), bytes_long, append_assoc)

    -- otherwise written, where they are put at the place
    append_writes : {k : ℕ} {t : List ℕ} → FieldsPut (map byte xs) s at k t → Wrote (answer (take at s ++ laid (map byte xs))) s (says (Ok k)) t
    unfolding says mapped fitted written
    append_writes p = record { said = rw (le-leb _ _ fits, front_long, p.moved, bytes_long); left = rw (le-leb _ _ fits, p.left) there }

    -- as a copy of them does
    pub append_copied :
        {k : ℕ} {ys : List ℕ}
        → ((i : ℕ) → Fits w8 (slice_index_or xs i 0))
        → k ≡ length xs
        → ys ≡ xs
        → Wrote (answer (take at s ++ laid (map byte xs))) s (says (Ok (at + length xs))) (put_mid at k s ys)
    append_copied bytes long same =
        append_writes
        (record {
          moved = rw bytes_long;
          left = rw (long, same, laid_same xs bytes, drop-drop, sets-eq xs s at room, append_assoc);
        })

    -- and what was appended was put
    append_put :
        {told : Outcome ℕ} {t : List ℕ}
        → Wrote (answer (take at s ++ laid (map byte xs))) s told t
        → (told ≡ answer (at + length xs)) × FieldsPut (map byte xs) s at (at + length xs) t
    unfolding mapped fitted written
    append_put w =
        (rw (le-leb _ _ fits, front_long) at w.said, record { moved = rw bytes_long; left = rw (le-leb _ _ fits) at w.left ∙ sym there })

-- ---- the reply

module _ (seq : ℕ) (a : ShortAddress) (xs s : List ℕ) where
  -- five bytes, and one for each endpoint
  list_size : size (widths (header seq SUCCESS a ++ endpoint_list xs)) ≡ 5 + length xs
  unfolding header endpoint_list size
  list_size = omega (arith, size_entries 1 xs)

  -- refused where there is no room
  pub list_full : length s < 5 + length xs → Wrote (list_rsp seq a xs) s (says (Err ShortBuffer)) s
  unfolding list_rsp says
  list_full h = run_full (header seq SUCCESS a ++ endpoint_list xs) s (rw list_size h)

  -- otherwise the header, the count and the endpoints are the reply
  pub list_writes :
      {c k m n : ℕ} {t u v : List ℕ}
      → FieldsPut (header seq SUCCESS a) s 0 m t
      → c ≡ min (length xs) 255
      → FieldPut 1 c t m n u
      → FieldsPut (map byte xs) u n k v
      → 5 + length xs ≤ length s
      → Wrote (list_rsp seq a xs) s (says (Ok k)) v
  unfolding list_rsp endpoint_list says
  list_writes p e q r h = run_writes (run_put_both p (run_put_told q e r)) (rw list_size h)

  -- so are they where the endpoints were appended
  pub list_appended :
      {c m n : ℕ} {t u v : List ℕ} {told : Outcome ℕ}
      → FieldsPut (header seq SUCCESS a) s 0 m t
      → c ≡ min (length xs) 255
      → FieldPut 1 c t m n u
      → Wrote (answer (take n u ++ laid (map byte xs))) u told v
      → 5 + length xs ≤ length s
      → Wrote (list_rsp seq a xs) s told v
  unfolding says
  list_appended {m = m} {n} {t} {u} p e q w h =
      let front : length t ≡ length s = rw p.left (length-sets s 0 (laid (header seq SUCCESS a))) in
      let place : n ≡ 5 = omega (arith, header_place seq SUCCESS a p, q.moved) in
      let room : n + length xs ≤ length u = omega (arith, put_counted q) in
      let (said, put) = append_put n u xs (omega arith) room w in
      rw said (list_writes p e q put h)
