-- Characters of a chunk, taken one by one. Assumes nothing.
use Prim.Native.Nat.{ℕ, suc, ◌+◌, ◌≤◌, ◌<◌}
use native.Mathlib.Numerals.{add-one}
use native.Mathlib.Omega.{arith}
use mathlib.Core.Path.{◌≡◌, refl, ◌∙◌}
use mathlib.Core.Bool.{Bool, true, false, cond}
use mathlib.Core.List.{List, [], ◌∷◌}
use lib.Dec.{eqb}
use lib.ListN.{length, get_or, drop, drop_of_length-le, length-set}
use lib.Seq.{drop-cons}
use borrow.Author.Tests.{eq-eqb, ne_eqb}
use Rattle.lines.specs.Lines.{LINE_FEED}
use Rattle.lines.specs.Splitter.{Pending, pending, grown, ended, later, split, Splits}
use Rattle.lines.specs.declared.splitter.Found.{Found}
use Rattle.lines.specs.declared.splitter.Found.TheVariants.{Nothing}

-- i of some characters were taken, and the line that has begun is q: what is left to do is what the whole is
pub record Going (p : Pending) (chars : List ℕ) (i : ℕ) (q : Pending) : Type 0 where
  pub same : length q.buffer ≡ length p.buffer
  pub found : (split p chars).found ≡ (split q (drop i chars)).found
  pub rest : (split p chars).rest ≡ (split q (drop i chars)).rest
  pub taken : (split p chars).taken ≡ i + (split q (drop i chars)).taken

-- the buffer stays as long as it is
grown_same : (p : Pending) (c : ℕ) → length (grown p c).buffer ≡ length p.buffer
unfolding grown
grown_same p c = length-set p.buffer p.count c

-- nothing was taken, to begin with
pub going_first : (p : Pending) (chars : List ℕ) → Going p chars 0 p
going_first p chars = record { same = refl; found = refl; rest = refl; taken = omega arith }

module _ {p q : Pending} {chars : List ℕ} {i : ℕ} (g : Going p chars i q) where
  module _ (h : i < length chars) where
    here : drop i chars ≡ get_or chars i 0 ∷ drop (i + 1) chars
    here = rw add-one (drop-cons chars i 0 h)

    -- the next is no line feed
    on : (get_or chars i 0 ≡ LINE_FEED → ⊥) → split q (drop i chars) ≡ later (split (grown q (get_or chars i 0)) (drop (i + 1) chars))
    unfolding split
    on other = rw (here, ne_eqb (get_or chars i 0) LINE_FEED other)

    -- so it is taken
    pub going_next : (get_or chars i 0 ≡ LINE_FEED → ⊥) → {r : Pending} → r ≡ grown q (get_or chars i 0) → Going p chars (i + 1) r
    unfolding later
    going_next other {r} is =
        let step = on other in
        record {
          same = rw (is, grown_same q (get_or chars i 0)) g.same;
          found = rw is (g.found ∙ rw step);
          rest = rw is (g.rest ∙ rw step);
          taken = rw is (g.taken ∙ rw step (omega arith));
        }

    -- the next is one: it ends the line
    stop : get_or chars i 0 ≡ LINE_FEED → split q (drop i chars) ≡ record { found = ended q; rest = pending 0 q.buffer; taken = 1 }
    unfolding split
    stop e = rw (here, eq-eqb (get_or chars i 0) LINE_FEED e)

    pub going_found :
        {whole : List ℕ} {f : Found} (at : ℕ)
        → chars ≡ whole
        → get_or chars i 0 ≡ LINE_FEED
        → f ≡ ended q
        → Splits (split p whole) at (record { splitter = record { count = 0 }; at = at + i + 1; found = f }) q.buffer
    going_found at all e is =
        let end = stop e in
        rw (← all) (record {
          told = rw (g.found, end) is;
          kept = rw (g.rest, end);
          moved = rw (g.taken, end) (omega arith);
          left = rw (g.rest, end);
        })

  -- there is no next
  pub going_past :
      {whole : List ℕ} (at : ℕ)
      → chars ≡ whole
      → length chars ≤ i
      → Splits (split p whole) at (record { splitter = record { count = q.count }; at = at + i; found = Nothing }) q.buffer
  unfolding split
  going_past at all h =
      let none : drop i chars ≡ [] = drop_of_length-le chars h in
      rw (← all) (record {
        told = rw (g.found, none);
        kept = rw (g.rest, none);
        moved = rw (g.taken, none) (omega arith);
        left = rw (g.rest, none);
      })

  -- all were taken
  pub going_end :
      {whole : List ℕ} (at : ℕ)
      → chars ≡ whole
      → i ≡ length chars
      → Splits (split p whole) at (record { splitter = record { count = q.count }; at = at + length chars; found = Nothing }) q.buffer
  going_end at all e = rw e at (going_past at all (omega arith))

-- ---- for whoever goes on until a chunk is used up

-- where there are characters, one is taken
split_moves : (p : Pending) (c : ℕ) (chunk : List ℕ) → 0 < (split p (c ∷ chunk)).taken
unfolding split later
split_moves p c chunk = go (eqb c LINE_FEED)
  where
    go : (t : Bool) → 0 < (cond t (record { found = ended p; rest = pending 0 p.buffer; taken = 1 }) (later (split (grown p c) chunk))).taken
    go true = omega arith
    go false = omega arith

pub split_takes : (p : Pending) (chunk : List ℕ) (at : ℕ) → at < length chunk → 0 < (split p (drop at chunk)).taken
split_takes p chunk at h = rw (drop-cons chunk at 0 h) (split_moves p (get_or chunk at 0) (drop (suc at) chunk))
