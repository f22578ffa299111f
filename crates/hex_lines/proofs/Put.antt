-- Bytes that are put one behind the other: the bytes of digits, one in each turn of a loop, and the digits of bytes, two in each turn.
-- Assumes nothing.
use Prim.Native.Nat.{ℕ, ◌+◌, ◌*◌, ◌/◌, ◌%◌, ◌≤◌, ◌<◌}
use native.Mathlib.Numerals.{add-one}
use native.Mathlib.Omega.{arith}
use mathlib.Core.Path.{◌≡◌, refl, ap, ◌∙◌}
use mathlib.Core.Bool.{true, and-eq-true_iff}
use mathlib.Core.List.{List, [], ◌∷◌, ◌++◌}
use lib.ListN.{length, get_or, take, set, length-append, length-set}
use lib.Seq.{sets, length-sets, take-suc, take_all}
use borrow.Author.Tests.{ltb-true, lt-ltb, le-ltb}
use Rattle.zigbee_types.specs.Lists.{all}
use Rattle.zigbee_types.proofs.Fields.{sets_append}
use Rattle.hex_lines.specs.Hex.{digit_value, is_digit, bytes_in, capital, digits_of, BytesPut}
use Rattle.hex_lines.proofs.Digits.{length_bytes}

-- none leave the buffer as it was
pub put_none : {s : List ℕ} {at : ℕ} → BytesPut [] s at at s
put_none = record { moved = omega arith; left = refl }

-- one is stored
pub put_one : (s : List ℕ) (at x : ℕ) → BytesPut (x ∷ []) s at (at + 1) (set s at x)
put_one s at x = record { moved = refl; left = refl }

-- some, and others behind them
pub put_both :
    {xs ys s t u : List ℕ} {at m n : ℕ} → BytesPut xs s at m t → BytesPut ys t m n u → BytesPut (xs ++ ys) s at n u
put_both {xs} {ys} {s} {at = at} p q =
    record {
      moved = rw length-append (omega (arith, p.moved, q.moved));
      left = rw (q.left, p.left, p.moved) (sets_append s at xs ys);
    }

-- the buffer stays as long as it was
pub put_length : {xs s t : List ℕ} {at n : ℕ} → BytesPut xs s at n t → length t ≡ length s
put_length {xs} {s} {at = at} p = rw p.left (length-sets s at xs)

-- ---- the bytes of digits

-- the bytes in front were put, i of them, and what is left makes the whole: digits, taken two at a time
pub record Decoded (ds left : List ℕ) (size i : ℕ) (before after : List ℕ) : Type 0 where
  pub pairs : size ≡ 2
  pub digits : all is_digit left ≡ true
  pub counted : i + length (bytes_in left) ≡ length (bytes_in ds)
  pub same : length after ≡ length before
  pub put : sets after i (bytes_in left) ≡ sets before 0 (bytes_in ds)

-- none, to begin with
pub decoded_first :
    (ds left : List ℕ) {s : List ℕ} (size i : ℕ) → left ≡ ds → size ≡ 2 → i ≡ 0 → all is_digit ds ≡ true → Decoded ds left size i s s
decoded_first ds left size i e two none digits =
    record { pairs = two; digits = rw e digits; counted = rw (e, none) (omega arith); same = refl; put = rw (e, none) }

-- two in front
pair_is : (p : List ℕ) → length p ≡ 2 → p ≡ get_or p 0 0 ∷ get_or p 1 0 ∷ []
pair_is [] e = absurd (omega arith)
pair_is (a ∷ []) e = absurd (omega arith)
pair_is (a ∷ b ∷ []) e = refl
pair_is (a ∷ b ∷ c ∷ p) e = absurd (omega arith)

module _ {ds left before after : List ℕ} {size i : ℕ} (p more : List ℕ) (d : Decoded ds left size i before after) (e : left ≡ p ++ more) (two : length p ≡ size) where
  here : left ≡ get_or p 0 0 ∷ get_or p 1 0 ∷ more
  here = e ∙ ap (λ q. q ++ more) (pair_is p (two ∙ d.pairs))

  -- both are digits, and so are those behind them
  digits : (digit_value (get_or p 0 0) < 16) × (digit_value (get_or p 1 0) < 16) × (all is_digit more ≡ true)
  unfolding all is_digit
  digits =
      let (high, rest) = (and-eq-true_iff _ _).0 (rw here at d.digits) in
      let (low, behind) = (and-eq-true_iff _ _).0 rest in
      (ltb-true _ 16 high, ltb-true _ 16 low, behind)

  pub decoded_high : digit_value (get_or p 0 0) < 16
  decoded_high = digits.0

  pub decoded_low : digit_value (get_or p 1 0) < 16
  decoded_low = digits.1

  -- there is room for their byte
  pub decoded_room : (k : ℕ) → k ≡ i → length (bytes_in ds) ≤ length before → k < length after
  unfolding bytes_in
  decoded_room k is room = omega (arith, d.same, rw here at d.counted)

  -- and it is put
  pub decoded_next :
      (size' k j b : ℕ)
      → size' ≡ size
      → k ≡ i
      → j ≡ i + 1
      → b ≡ 16 * digit_value (get_or p 0 0) + digit_value (get_or p 1 0)
      → Decoded ds more size' j before (set after k b)
  unfolding bytes_in
  decoded_next size' k j b f at g is =
      record {
        pairs = f ∙ d.pairs;
        digits = digits.2;
        counted = omega (arith, rw here at d.counted);
        same = rw length-set d.same;
        put = rw (is, at, g, add-one) (rw here at d.put);
      }

-- fewer than two make no byte
none_left : {t u : List ℕ} (i : ℕ) (left : List ℕ) → length left < 2 → sets t i (bytes_in left) ≡ u → t ≡ u
unfolding bytes_in
none_left i [] h e = e
none_left i (a ∷ []) h e = e
none_left i (a ∷ b ∷ left) h e = absurd (omega arith)

-- all of them
pub decoded_end :
    {ds left before after : List ℕ} {size i : ℕ}
    → Decoded ds left size i before after
    → length left < size
    → BytesPut (bytes_in ds) before 0 (length ds / 2) after
decoded_end {ds} {left} {i = i} d h = record { moved = rw length_bytes (omega arith); left = none_left i left (omega (arith, d.pairs)) d.put }

-- ---- the digits of bytes

-- the digit of a number below ten, and of another
module _ (n : ℕ) where
  pub capital_low : n < 10 → 48 + n ≡ capital n
  unfolding capital
  capital_low h = rw (lt-ltb n 10 h)

  pub capital_high : 10 ≤ n → 55 + n ≡ capital n
  unfolding capital
  capital_high h = rw (le-ltb n 10 h)

-- two for each
pub length_digits : (bytes : List ℕ) → length (digits_of bytes) ≡ 2 * length bytes
unfolding digits_of
length_digits [] = refl
length_digits (b ∷ bytes) = omega (arith, length_digits bytes)

-- those of one more behind the others
digits_last : (bytes : List ℕ) (b : ℕ) → digits_of (bytes ++ (b ∷ [])) ≡ digits_of bytes ++ digits_of (b ∷ [])
unfolding digits_of
digits_last [] b = refl
digits_last (c ∷ bytes) b = rw (digits_last bytes b)

-- those of one byte: there is room for the second
pub pair_room : (s : List ℕ) (at x : ℕ) → at + 2 ≤ length s → at + 1 < length (set s at x)
pair_room s at x h = rw length-set (omega arith)

-- and both are put
pub pair_put :
    (s : List ℕ) (at byte : ℕ) {high low : ℕ}
    → high ≡ capital (byte / 16)
    → low ≡ capital (byte % 16)
    → BytesPut (digits_of (byte ∷ [])) s at (at + 2) (set (set s at high) (at + 1) low)
unfolding digits_of
pair_put s at byte a b = rw (a, b) (record { moved = refl; left = rw add-one })

-- those of the first i bytes were put from a place on
pub record Encoded (bytes : List ℕ) (i : ℕ) (before : List ℕ) (at next : ℕ) (after : List ℕ) : Type 0 where
  pub moved : next ≡ at + 2 * i
  pub same : length after ≡ length before
  pub put : BytesPut (digits_of (take i bytes)) before at next after

-- none, to begin with
pub encoded_first : {bytes s : List ℕ} {at : ℕ} → Encoded bytes 0 s at at s
unfolding digits_of
encoded_first = record { moved = omega arith; same = refl; put = put_none }

module _ {bytes s t : List ℕ} {i at m : ℕ} (e : Encoded bytes i s at m t) where
  module _ (h : i < length bytes) where
    -- there is room for the next two
    pub encoded_room : at + 2 * length bytes ≤ length s → m + 2 ≤ length t
    encoded_room room = omega (arith, e.moved, e.same)

    -- and they are put
    pub encoded_next : {u : List ℕ} {n : ℕ} → BytesPut (digits_of (get_or bytes i 0 ∷ [])) t m n u → Encoded bytes (i + 1) s at n u
    encoded_next p =
        record {
          moved = omega (arith, e.moved, p.moved, length_digits (get_or bytes i 0 ∷ []));
          same = rw (put_length p) e.same;
          put = rw (add-one, take-suc bytes i 0 h, digits_last) (put_both e.put p);
        }

  -- all of them
  pub encoded_end : length bytes ≤ i → BytesPut (digits_of bytes) s at m t
  encoded_end h = rw (take_all i bytes h) at e.put
