-- A run with more room holds all that the other holds, and has SUCCESS wherever the other has. Assumes nothing.
use Prim.Native.Nat.{ℕ, ◌+◌, ◌≤◌}
use native.Mathlib.Omega.{arith}
use mathlib.Core.Path.{◌≡◌, refl, sym, ◌∙◌}
use mathlib.Core.Bool.{true, false, false≢true}
use mathlib.Core.List.{List, [], ◌∷◌, ◌++◌}
use lib.ListN.{length, length-append}
use Rattle.zigbee_types.specs.Outcome.{answer}
use Rattle.aps_binding.specs.Entry.{same}
use Rattle.aps_binding_table.specs.Held.{Step, holds, without}
use Rattle.aps_binding_table.specs.Table.{empty_table, held}
use Rattle.aps_binding.specs.declared.binding.Binding.{Binding}
use Rattle.aps_binding_table.specs.declared.binding.BindingTable.{BindingTable}
use Rattle.aps_binding_table.proofs.Good.{Good, empty_good, held_length}
use Rattle.aps_binding_table.proofs.Holds.{not_same, last_keeps, last_held, last_within, holds_other, length_without}
use Rattle.demands.specs.Calls.{Call, next}
use Rattle.demands.specs.Reached.{distinct}
use Rattle.demands.specs.Order.{Agree, equal, room, kept, SuccessKept, Ordered, Order}
use Rattle.demands.proofs.Runs.{left_alike}
use Rattle.demands.proofs.Calls.{stepped, Stepped, again, full, added, removed, absent, step_cases, told_step, good_next, next_limit, next_held}
use Rattle.demands.proofs.Distinct.{distinct_last, distinct_without, holds_gone}

pub success_kept : SuccessKept
success_kept c o (equal _ _) = refl

-- ---- one step

-- between the entries held at limit m and those held at limit n: the first are held in the second, none of the first stands twice,
-- and the second have no less room left
record Covered (m n : ℕ) (xs ys : List Binding) : Type 0 where
  sub : (c : Binding) → holds c xs ≡ true → holds c ys ≡ true
  once : distinct xs ≡ true
  spare : length ys + m ≤ length xs + n

-- so it is after a step, and the statuses agree
abbrev Next : ℕ → ℕ → Call → Step → Step → Type 0
Next m n c s l = Covered m n s.entries l.entries × Agree c (answer s.status) (answer l.status)

module _ {m n : ℕ} {xs ys : List Binding} (a : Covered m n xs ys) where
  -- none that is held in the first run is missing in the second
  missing : {P : Type 0} (b : Binding) → holds b xs ≡ true → holds b ys ≡ false → P
  missing b hx hy = absurd (false≢true (sym hy ∙ a.sub b hx))

  -- all that the first holds is held in the second with b put last
  grown : (b c : Binding) → holds c xs ≡ true → holds c (ys ++ (b ∷ [])) ≡ true
  grown b c h = last_keeps c b ys (a.sub c h)

  -- it stays so where b is put last in the second, since the first is full
  second_added : (b : Binding) → length xs ≡ m → length ys ≤ n → (length ys ≡ n → ⊥) → Covered m n xs (ys ++ (b ∷ []))
  second_added b e large k =
      record { sub = grown b; once = a.once; spare = simp length-append (omega arith) }

  -- or in the first, since the second holds it
  first_added : (b : Binding) → holds b xs ≡ false → holds b ys ≡ true → Covered m n (xs ++ (b ∷ [])) ys
  first_added b hx hy =
      record { sub = last_within b xs ys a.sub hy; once = distinct_last b xs a.once hx; spare = simp length-append (omega arith) }

  -- or in both
  both_added : (b : Binding) → holds b xs ≡ false → Covered m n (xs ++ (b ∷ [])) (ys ++ (b ∷ []))
  both_added b hx =
      record {
        sub = last_within b xs (ys ++ (b ∷ [])) (grown b) (last_held b ys);
        once = distinct_last b xs a.once hx;
        spare = simp length-append (omega arith);
      }

  -- an entry that is not the same as b is held in the second without b
  stays : (b c : Binding) → same b c ≡ false → holds c xs ≡ true → holds c (without b ys) ≡ true
  stays b c other h = holds_other c b ys other ∙ a.sub c h

  -- so it stays where b goes from the second alone
  second_removed : (b : Binding) → holds b xs ≡ false → holds b ys ≡ true → Covered m n xs (without b ys)
  second_removed b hx hy =
      record { sub = λ c h. stays b c (not_same b c xs hx h) h; once = a.once; spare = omega (arith, length_without b ys hy) }

  -- or from both, since the first then holds none that is the same as b
  both_removed : (b : Binding) → holds b xs ≡ true → holds b ys ≡ true → Covered m n (without b xs) (without b ys)
  both_removed b hx hy =
      record {
        sub =
            λ c h.
            let other = not_same b c (without b xs) (holds_gone b xs a.once) h in
            stays b c other (sym (holds_other c b xs other) ∙ h);
        once = distinct_without b xs a.once;
        spare = omega (arith, length_without b xs hx, length_without b ys hy);
      }

  -- one call in both runs, case by case
  both_next : {c : Call} {s l : Step} → length xs ≤ m → length ys ≤ n → Stepped m xs c s → Stepped n ys c l → Next m n c s l
  both_next small large (again b hx) (again _ hy) = (a, equal _ _)
  both_next small large (again b hx) (full _ hy k) = missing b hx hy
  both_next small large (again b hx) (added _ hy k) = missing b hx hy
  both_next small large (full b hx e) (again _ hy) = (a, room b)
  both_next small large (full b hx e) (full _ hy k) = (a, equal _ _)
  both_next small large (full b hx e) (added _ hy k) = (second_added b e large k, room b)
  both_next small large (added b hx e) (again _ hy) = (first_added b hx hy, equal _ _)
  both_next small large (added b hx e) (full _ hy k) = absurd (omega arith)
  both_next small large (added b hx e) (added _ hy k) = (both_added b hx, equal _ _)
  both_next small large (removed b hx) (removed _ hy) = (both_removed b hx hy, equal _ _)
  both_next small large (removed b hx) (absent _ hy) = missing b hx hy
  both_next small large (absent b hx) (removed _ hy) = (second_removed b hx hy, kept b)
  both_next small large (absent b hx) (absent _ hy) = (a, equal _ _)

-- ---- tables

-- between two tables: both are good, and so it is between the entries that they hold
pub record Behind (t u : BindingTable) : Type 0 where
  pub less : Good t
  pub more : Good u
  ahead : Covered t.limit u.limit (held t) (held u)

-- so it is with the steps on two tables
stepped_next : {t u : BindingTable} (c : Call) → Behind t u → Next t.limit u.limit c (stepped t c) (stepped u c)
stepped_next {t} {u} c r =
    let small : length (held t) ≤ t.limit = omega (arith, held_length r.less) in
    let large : length (held u) ≤ u.limit = omega (arith, held_length r.more) in
    both_next r.ahead small large (step_cases t c) (step_cases u c)

-- so it is after a call
pub behind_next : {t u : BindingTable} (c : Call) → Behind t u → Behind (next t c) (next u c)
behind_next c r =
    record {
      less = good_next c r.less;
      more = good_next c r.more;
      ahead = rw (next_held c r.less, next_held c r.more, next_limit c r.less, next_limit c r.more) (stepped_next c r).0;
    }

-- which is what `Order` says of them
pub behind_ordered : {t u : BindingTable} → Behind t u → Ordered t u
behind_ordered r =
    record {
      entries = r.ahead.sub;
      statuses = λ c. rw (told_step c r.less, told_step c r.more) (stepped_next c r).1;
    }

-- and with other limits, which leave the second no less room than the first
pub behind_limited :
    {t u : BindingTable} (m n : ℕ)
    → Behind t u
    → t.count ≤ m
    → m ≤ 32
    → u.count ≤ n
    → n ≤ 32
    → u.count + m ≤ t.count + n
    → Behind (record { entries = t.entries; limit = m; count = t.count }) (record { entries = u.entries; limit = n; count = u.count })
unfolding held
behind_limited m n b low few high most spare =
    record {
      less = record { within = low; limited = few; places = b.less.places };
      more = record { within = high; limited = most; places = b.more.places };
      ahead = record { sub = b.ahead.sub; once = b.ahead.once; spare = omega (arith, held_length b.less, held_length b.more) };
    }

-- and of two empty tables
pub behind_empty : (less more : ℕ) → less ≤ more → more ≤ 32 → Behind (empty_table less) (empty_table more)
unfolding empty_table held distinct
behind_empty less more h l =
    record {
      less = empty_good less (omega arith);
      more = empty_good more (omega arith);
      ahead = record { sub = λ c e. e; once = refl; spare = omega arith };
    }

pub order : Order
order less more h l cs = behind_ordered (left_alike next (λ c. c) Behind (λ t u c d e b. rw (← e) (behind_next c b)) cs cs refl (behind_empty less more h l))
