-- A line that is written: its length, and that its parts are put one behind the other. Assumes nothing.
use Rattle.std.specs.Prelude.{Ok, Err}
use Prim.Native.Nat.{ℕ, ◌+◌, ◌-◌, ◌*◌, ◌/◌, ◌%◌, ◌≤◌, ◌<◌}
use native.Mathlib.Nat.{zero-add}
use native.Mathlib.Omega.{arith}
use mathlib.Core.Path.{◌≡◌, ◌∙◌}
use mathlib.Core.List.{List, [], ◌∷◌}
use lib.ListN.{length, set, length-set}
use Rattle.zigbee_types.specs.Outcome.{answer, Wrote}
use Rattle.zigbee_types.specs.Answers.{says}
use Rattle.zigbee_types.specs.declared.Refusal.TheVariants.{ShortBuffer}
use Rattle.zigbee_types.proofs.Outcomes.{wrote_stored, wrote_full}
use Rattle.hex_lines.specs.Hex.{digits_of, BytesPut}
use Rattle.hex_lines.specs.RequestLine.{SPACE, hex_line}
use Rattle.hex_lines.proofs.Put.{put_one, put_both, put_length, length_digits}

module _ (cluster : ℕ) (bytes : List ℕ) where
  -- five characters, and two for each byte
  pub length_line : length (hex_line cluster bytes) ≡ 5 + 2 * length bytes
  unfolding hex_line digits_of
  length_line = omega (arith, length_digits bytes)

  module _ {s : List ℕ} where
    -- refused where there is no room
    pub line_full : length s < 5 + 2 * length bytes → Wrote (answer (hex_line cluster bytes)) s (says (Err ShortBuffer)) s
    unfolding says
    line_full h = wrote_full (hex_line cluster bytes) s (rw length_line h)

    -- otherwise the two bytes of the cluster and the space are put
    module _ {i j : ℕ} {t u : List ℕ} (p : BytesPut (digits_of (cluster / 256 ∷ [])) s 0 i t) (q : BytesPut (digits_of (cluster % 256 ∷ [])) t i j u) where
      same : length (set u j SPACE) ≡ length s
      same = rw length-set (put_length q ∙ put_length p)

      -- the buffer stays as long as it is
      pub line_same : {n : ℕ} {v : List ℕ} → BytesPut (digits_of bytes) (set u j SPACE) (j + 1) n v → length v ≡ length s
      line_same r = put_length r ∙ same

      module _ (a : 5 ≤ length s) (b : length bytes ≤ (length s - 5) / 2) where
        -- there is room for the bytes behind them
        pub line_room : j + 1 + 2 * length bytes ≤ length (set u j SPACE)
        unfolding digits_of
        line_room = rw same (omega (arith, p.moved, q.moved))

        -- and with them the line is written
        pub line_written :
            {n : ℕ} {v : List ℕ} → BytesPut (digits_of bytes) (set u j SPACE) (j + 1) n v → Wrote (answer (hex_line cluster bytes)) s (says (Ok n)) v
        unfolding says hex_line digits_of
        line_written r =
            let put = put_both p (put_both q (put_both (put_one u j SPACE) r)) in
            wrote_stored (hex_line cluster bytes) (rw zero-add at put.moved) put.left (rw length_line (omega arith))
