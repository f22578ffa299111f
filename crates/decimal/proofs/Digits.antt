-- The digits of a number, by its quotient by ten: what they are, how many, and that they stand for it. Assumes nothing.
use Prim.Native.Nat.{ℕ, zero, suc, ◌+◌, ◌-◌, ◌*◌, ◌/◌, ◌%◌, ◌^◌, ◌≤◌, ◌<◌}
use native.Mathlib.Nat.{not-suc-le-zero, pow-suc}
use native.Mathlib.Numerals.{add-one}
use native.Mathlib.Omega.{arith}
use mathlib.Core.Path.{◌≡◌, refl}
use mathlib.Core.Bool.{Bool, true, false}
use mathlib.Core.List.{List, [], ◌∷◌, ◌++◌}
use lib.Dec.{ltb}
use lib.ListN.{length, get_or, length-append, get_or-append}
use borrow.Author.Tests.{ltb-true, ltb-false, lt-ltb, le-ltb, le-leb}
use Rattle.zigbee_types.specs.Lists.{all}
use Rattle.zigbee_types.proofs.Elements.{all_last}
use Rattle.decimal.specs.Decimal.{digit, digits_within, decimal}
use Rattle.decimal.specs.ReadBack.{read_on, NINE, is_decimal, DecimalReadsBack, DecimalDigits, DecimalShort}

-- ---- by the quotient by ten

-- what holds of each number below ten, and of any other where it holds of its quotient, holds of every number
by_ten : (P : ℕ → Type 0) → ((n : ℕ) → n < 10 → P n) → ((n : ℕ) → 10 ≤ n → P (n / 10) → P n) → (n : ℕ) → P n
by_ten P few more n = within (n + 1) n (omega arith)
  where
    within : (k n : ℕ) → n < k → P n
    within zero n h = absurd (not-suc-le-zero h)
    within (suc k) n h = go (ltb n 10) refl (within k (n / 10))
      where
        go : (t : Bool) → ltb n 10 ≡ t → (n / 10 < k → P (n / 10)) → P n
        go true e quotient = few n (ltb-true n 10 e)
        go false e quotient = let many : 10 ≤ n = ltb-false n 10 e in more n many (quotient (omega arith))

-- the digits are the same, however many more there might be
enough : (j k n : ℕ) → n < j → n < k → digits_within j n ≡ digits_within k n
unfolding digits_within
enough zero k n h l = absurd (not-suc-le-zero h)
enough (suc j) zero n h l = absurd (not-suc-le-zero l)
enough (suc j) (suc k) n h l = go (ltb n 10) refl (enough j k (n / 10))
  where
    go : (t : Bool) → ltb n 10 ≡ t → (n / 10 < j → n / 10 < k → digits_within j (n / 10) ≡ digits_within k (n / 10)) → digits_within (suc j) n ≡ digits_within (suc k) n
    go true e quotient = rw e
    go false e quotient = let many : 10 ≤ n = ltb-false n 10 e in rw (e, quotient (omega arith) (omega arith))

-- below ten it is one
pub decimal_one : (n : ℕ) → n < 10 → decimal n ≡ digit n ∷ []
unfolding decimal digits_within
decimal_one n h = rw (add-one, lt-ltb n 10 h)

-- otherwise the remainder comes behind the quotient's
pub decimal_more : (n : ℕ) → 10 ≤ n → decimal n ≡ decimal (n / 10) ++ (digit (n % 10) ∷ [])
unfolding decimal digits_within
decimal_more n h = rw (add-one n, le-ltb n 10 h, enough n (n / 10 + 1) (n / 10) (omega arith) (omega arith))

-- ---- how many

-- there is one more than the quotient has
pub length_more : (n : ℕ) → 10 ≤ n → length (decimal n) ≡ length (decimal (n / 10)) + 1
length_more n h = rw (decimal_more n h, length-append)

-- a number below ten to the power of so many has at most so many digits
pub length_below : (k n : ℕ) → n < 10 ^ suc k → length (decimal n) ≤ suc k
length_below zero n h = rw (decimal_one n h) (omega arith)
length_below (suc k) n h = go (ltb n 10) refl (length_below k (n / 10))
  where
    go : (t : Bool) → ltb n 10 ≡ t → (n / 10 < 10 ^ suc k → length (decimal (n / 10)) ≤ suc k) → length (decimal n) ≤ suc (suc k)
    go true e rest = rw (decimal_one n (ltb-true n 10 e)) (omega arith)
    go false e rest =
        let more = ltb-false n 10 e in
        let fewer = rest (omega (arith, pow-suc 10 (suc k))) in
        rw (length_more n more) (omega arith)

-- a number n has at most n + 1 digits
pub length_few : (n : ℕ) → length (decimal n) ≤ n + 1
length_few = by_ten (λ n. length (decimal n) ≤ n + 1) (λ n h. rw (decimal_one n h) (omega arith)) (λ n h p. omega (arith, length_more n h))

-- and it has one or more
length_some : (n : ℕ) → 0 < length (decimal n)
length_some = by_ten (λ n. 0 < length (decimal n)) (λ n h. rw (decimal_one n h) (omega arith)) (λ n h p. omega (arith, length_more n h))

-- ---- that they stand for it

-- one more digit stands for ten times what stands before it, and its own value
read_last : (n : ℕ) (cs : List ℕ) (c : ℕ) → read_on n (cs ++ (c ∷ [])) ≡ 10 * read_on n cs + (c - 48)
unfolding read_on
read_last n [] c = refl
read_last n (d ∷ cs) c = read_last (10 * n + (d - 48)) cs c

pub decimal_back : DecimalReadsBack
unfolding read_on
decimal_back = by_ten _ (λ n h. rw (decimal_one n h) (omega arith)) (λ n h p. rw (decimal_more n h, read_last, p) (omega arith))

-- ---- that they are digits, the first of which is no zero

-- the character of a digit is one of `0` to `9`
digit_is : (d : ℕ) → d < 10 → is_decimal (digit d) ≡ true
unfolding is_decimal
digit_is d h = rw (le-leb 48 (48 + d) (omega arith), le-leb (48 + d) NINE (omega arith))

pub decimal_digits : DecimalDigits
unfolding all
decimal_digits =
    by_ten _ (λ n h. rw (decimal_one n h, digit_is n h))
    (λ n h p. rw (decimal_more n h, all_last, p) (digit_is (n % 10) (omega arith)))

-- the first digit of a number is its quotient's
first_more : (n : ℕ) → 10 ≤ n → get_or (decimal n) 0 0 ≡ get_or (decimal (n / 10)) 0 0
first_more n h = rw (decimal_more n h, get_or-append (decimal (n / 10)) (digit (n % 10) ∷ []) 0 0 (length_some (n / 10)))

pub decimal_short : DecimalShort
decimal_short = (
  decimal_one 0 (omega arith),
  by_ten _ (λ n l s. rw (decimal_one n l) (omega arith)) (λ n l p s. rw (first_more n l) (p (omega arith))),
)
