-- The digits of a number that are counted and put, those of the quotient by ten before the last. Assumes nothing.
use Prim.Native.Nat.{ℕ, ◌+◌, ◌/◌, ◌%◌, ◌^◌, ◌≤◌, ◌<◌}
use native.Mathlib.Nat.{zero-add}
use native.Mathlib.Omega.{arith}
use mathlib.Core.Path.{◌≡◌}
use mathlib.Core.List.{List, [], ◌∷◌}
use lib.ListN.{length, set}
use lib.Seq.{sets}
use mir.Syntax.{w64}
use mir.Val.{Fits}
use Rattle.zigbee_types.proofs.Fields.{sets_append}
use Rattle.decimal.specs.Decimal.{digit, decimal}
use Rattle.decimal.proofs.Digits.{decimal_one, decimal_more, length_few, length_more}

-- ---- one digit: it is counted, there is room for it, and it is put

module _ (n : ℕ) (h : n < 10) where
  pub one_counted : 1 ≡ length (decimal n)
  one_counted = rw (decimal_one n h)

  pub one_room : (k : ℕ) → length (decimal n) ≤ k → 0 < k
  one_room k room = omega (arith, one_counted)

  pub one_put : (s : List ℕ) → set s 0 (48 + n) ≡ sets s 0 (decimal n)
  one_put s = rw (decimal_one n h)

-- ---- one more than the quotient has

-- a number of the machine counts them
pub more_fits : (n k : ℕ) → n < 2 ^ 64 → k ≡ length (decimal (n / 10)) → Fits w64 (k + 1)
more_fits n k fits e = record { fits = omega (arith, length_few (n / 10)) }

module _ (n : ℕ) (h : 10 ≤ n) where
  -- so many are counted
  pub more_counted : {k : ℕ} → k ≡ length (decimal (n / 10)) → k + 1 ≡ length (decimal n)
  more_counted e = omega (arith, length_more n h)

  -- there is room for the quotient's digits
  pub more_before : (k : ℕ) → length (decimal n) ≤ k → length (decimal (n / 10)) ≤ k
  more_before k room = omega (arith, length_more n h)

  -- and for one behind them
  pub more_room : (at k l : ℕ) → at ≡ length (decimal (n / 10)) → length (decimal n) ≤ k → l ≡ k → at < l
  more_room at k l e room same = omega (arith, length_more n h)

  -- which is put
  pub more_put :
      (at : ℕ) (s t : List ℕ)
      → at ≡ length (decimal (n / 10))
      → t ≡ sets s 0 (decimal (n / 10))
      → set t at (48 + n % 10) ≡ sets s 0 (decimal n)
  more_put at s t e p =
      rw (p, e, decimal_more n h) (rw zero-add at (sets_append s 0 (decimal (n / 10)) (digit (n % 10) ∷ [])))
