-- One character more of a line, and a line that ends. Assumes nothing.
use Prim.Native.Nat.{ℕ, ◌+◌, ◌≤◌, ◌<◌}
use native.Mathlib.Omega.{arith}
use mathlib.Core.Path.{◌≡◌}
use mathlib.Core.List.{List}
use lib.ListN.{length, set}
use lib.Seq.{set_out}
use borrow.Author.Tests.{le-leb, lt-leb, eq-eqb, ne_eqb}
use Rattle.lines.specs.Splitter.{pending, grown, ended, last}
use Rattle.lines.specs.declared.splitter.Found.{Found}
use Rattle.lines.specs.declared.splitter.Found.TheVariants.{Line, Overlong, Nothing}

module _ (buffer : List ℕ) (n : ℕ) where
  -- ---- a character

  module _ (c : ℕ) where
    -- there was no room before
    pub grown_past : length buffer < n → pending n buffer ≡ grown (pending n buffer) c
    unfolding grown
    grown_past h =
        let out : length buffer ≤ n = omega arith in
        rw (lt-leb n (length buffer) h, set_out buffer n c out)

    -- it is the first that has none
    pub grown_full : n ≡ length buffer → pending (n + 1) buffer ≡ grown (pending n buffer) c
    unfolding grown
    grown_full e =
        let fits : n ≤ length buffer = omega arith in
        let out : length buffer ≤ n = omega arith in
        rw (le-leb n (length buffer) fits, set_out buffer n c out)

    -- there is room
    pub grown_put : n ≤ length buffer → pending (n + 1) (set buffer n c) ≡ grown (pending n buffer) c
    unfolding grown
    grown_put h = rw (le-leb n (length buffer) h)

  -- ---- the end

  pub ended_long : length buffer < n → Overlong ≡ ended (pending n buffer)
  unfolding ended
  ended_long h = rw (lt-leb n (length buffer) h)

  pub ended_whole : n ≤ length buffer → Line n ≡ ended (pending n buffer)
  unfolding ended
  ended_whole h = rw (le-leb n (length buffer) h)

  pub last_none : n ≡ 0 → Nothing ≡ last (pending n buffer)
  unfolding last
  last_none e = rw (eq-eqb n 0 e)

  pub last_some : (n ≡ 0 → ⊥) → {f : Found} → f ≡ ended (pending n buffer) → f ≡ last (pending n buffer)
  unfolding last
  last_some other is = rw (ne_eqb n 0 other) is
