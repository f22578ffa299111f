-- A request's line: the tests that it passes, its cluster, and what is told of it. Assumes nothing.
use Prim.Native.Nat.{ℕ, ◌+◌, ◌-◌, ◌*◌, ◌/◌, ◌%◌, ◌≤◌, ◌<◌}
use native.Mathlib.Nat.{zero-add}
use native.Mathlib.Omega.{arith}
use mathlib.Core.Path.{◌≡◌, sym}
use mathlib.Core.Bool.{Bool, true, false, not, ◌&&◌, and-eq-true_iff}
use mathlib.Core.List.{List}
use lib.Dec.{eqb}
use lib.ListN.{length, get_or, take, drop, length-drop}
use lib.Seq.{take_all, length-take-le, get_or-take}
use borrow.Author.Tests.{leb-true, le-leb, lt-leb, eq-eqb}
use Rattle.std.specs.Prelude.{None, Some, Ok, Err}
use Rattle.zigbee_types.specs.Answers.{says}
use Rattle.zigbee_types.specs.Lists.{all}
use Rattle.zigbee_types.specs.Outcome.{mapped, written}
use Rattle.zigbee_types.specs.declared.Refusal.TheVariants.{ShortBuffer}
use Rattle.zigbee_types.proofs.Outcomes.{stored_front}
use Rattle.zigbee_types.proofs.Scans.{said_no, said_yes}
use Rattle.hex_lines.specs.Hex.{digit_value, is_digit, bytes_in, BytesPut}
use Rattle.hex_lines.specs.RequestLine.{SPACE, is_request, cluster_in, request_in, with_room, heard_of, payload_left, LineRead}
use Rattle.hex_lines.proofs.Digits.{digit_at, length_bytes}

-- the characters behind the front of a line, as the code takes them
abbrev rest : List ℕ → List ℕ
rest line = take (length line - 5) (drop 5 line)

module _ (line : List ℕ) where
  -- they run to its end
  rest_whole : rest line ≡ drop 5 line
  rest_whole = take_all (length line - 5) (drop 5 line) (rw length-drop (omega arith))

  -- ---- the tests

  -- too few characters
  pub line_short : length line < 7 → false ≡ is_request line
  unfolding is_request
  line_short h = rw (lt-leb 7 (length line) h)

  module _ (long : 7 ≤ length line) where
    -- an even number of them
    pub line_even : length line % 2 ≡ 0 → false ≡ is_request line
    unfolding is_request
    line_even e = rw (le-leb 7 (length line) long, e)

    -- there are four in front
    pub line_front : 4 ≡ length (take 4 line)
    line_front = sym (length-take-le 4 line (omega arith))

  -- otherwise the digits and the space decide
  pub line_tested :
      {a b : Bool}
      → 7 ≤ length line
      → (length line % 2 ≡ 0 → ⊥)
      → a ≡ all is_digit (take 4 line)
      → b ≡ all is_digit (rest line)
      → (a && eqb (get_or line 4 0) SPACE && b) ≡ is_request line
  unfolding is_request
  line_tested long other p q =
      let odd : length line % 2 ≡ 1 = omega arith in
      rw (le-leb 7 (length line) long, eq-eqb (length line % 2) 1 odd, p, q, rest_whole)

  -- ---- what a request has passed

  record Passed : Type 0 where
    pub long : 7 ≤ length line
    pub front : all is_digit (take 4 line) ≡ true
    pub rest : all is_digit (drop 5 line) ≡ true

  module _ (g : is_request line ≡ true) where
    passed : Passed
    unfolding is_request
    passed =
        let (a, rest) = (and-eq-true_iff _ _).0 g in
        let (b, space) = (and-eq-true_iff _ _).0 a in
        let (d, front) = (and-eq-true_iff _ _).0 b in
        let (long, odd) = (and-eq-true_iff _ _).0 d in
        record { long = leb-true 7 (length line) long; front = front; rest = rest }

    -- it has seven characters or more
    pub request_long : (k : ℕ) → k ≤ 7 → k ≤ length line
    request_long k h = omega (arith, passed.long)

    -- the characters behind its front are digits
    pub request_rest : all is_digit (rest line) ≡ true
    request_rest = rw rest_whole passed.rest

    -- and so is each of its first four
    pub request_digit : (i : ℕ) → i < 4 → digit_value (get_or line i 0) < 16
    request_digit i h = rw get_or-take at (digit_at (take 4 line) i passed.front (rw (length-take-le 4 line (request_long 4 (omega arith))) h))

  -- ---- its cluster: two bytes, the first the high one

  pub cluster_is :
      {a b : ℕ}
      → a ≡ 16 * digit_value (get_or line 0 0) + digit_value (get_or line 1 0)
      → b ≡ 16 * digit_value (get_or line 2 0) + digit_value (get_or line 3 0)
      → 256 * a + b ≡ cluster_in line
  unfolding cluster_in
  cluster_is p q = omega arith

-- ---- what is told of a line

module _ (line before : List ℕ) {t : Bool} (is : t ≡ is_request line) where
  -- it is no request
  pub told_other : not t ≡ true → LineRead (request_in line) before (says (Ok None)) before
  unfolding request_in with_room heard_of mapped payload_left says
  told_other none = record { said = rw (said_no is none); left = rw (said_no is none) }

  module _ (one : not t ≡ false) where
    -- its payload has a byte for every two characters behind its front
    payload_long : length (bytes_in (drop 5 line)) ≡ length (rest line) / 2
    payload_long = rw (length_bytes, rest_whole)

    -- there is no room for it
    pub told_full : length before < length (rest line) / 2 → LineRead (request_in line) before (says (Err ShortBuffer)) before
    unfolding request_in with_room heard_of mapped payload_left says
    told_full h =
        let full : length before < length (bytes_in (drop 5 line)) = rw payload_long h in
        record { said = rw (said_yes is one, lt-leb _ _ full); left = rw (said_yes is one, lt-leb _ _ full) }

    -- there is room
    module _ (h : length (rest line) / 2 ≤ length before) where
      pub told_room : length (bytes_in (rest line)) ≤ length before
      told_room = rw length_bytes h

      -- so it is put there
      pub told_request :
          {cluster n : ℕ} {after : List ℕ}
          → cluster ≡ cluster_in line
          → BytesPut (bytes_in (rest line)) before 0 n after
          → LineRead (request_in line) before (says (Ok (Some (record { cluster = cluster; length = n })))) after
      unfolding request_in with_room heard_of mapped payload_left says written
      told_request e p =
          let bytes : List ℕ = bytes_in (drop 5 line) in
          let fits : length bytes ≤ length before = rw payload_long h in
          let put : BytesPut bytes before 0 _ _ = rw rest_whole at p in
          record {
            said = rw (said_yes is one, le-leb _ _ fits, e, put.moved, zero-add);
            left = rw (said_yes is one, le-leb _ _ fits, put.left) (stored_front bytes before fits);
          }
