-- Fed any chunks, a splitter tells the lines of the stream that they make. Assumes nothing.
use Prim.Native.Nat.{ℕ, zero, suc, ◌+◌, ◌≤◌, ◌<◌, min}
use native.Mathlib.Numerals.{add-one}
use native.Mathlib.Omega.{arith}
use mathlib.Core.Path.{◌≡◌, refl}
use mathlib.Core.Bool.{Bool, true, false, cond}
use mathlib.Core.List.{List, [], ◌∷◌, ◌++◌, map, append-nil, append_assoc}
use lib.Dec.{eqb, leb}
use lib.ListN.{length, take, drop, set, length-append, length-drop, length-set, drop_of_length-le}
use lib.Seq.{take-suc-set, drop-drop}
use borrow.Author.Tests.{eqb-true, eqb-false, leb-true, leb-false, le-leb, lt-leb, ne_eqb}
use Rattle.lines.specs.Lines.{LINE_FEED, begins, lines_of, line_within, lines_within}
use Rattle.lines.specs.Splitter.{Pending, pending, grown, ended, Taken, later, split, last}
use Rattle.lines.specs.Chunks.{found_line, read_to, run, joined, ChunksJoin}
use Rattle.lines.proofs.Taken.{split_takes}

-- ---- characters that end no line

abbrev Plain : List ℕ → Type 0
Plain [] = Unit
Plain (c ∷ cs) = (c ≡ LINE_FEED → ⊥) × Plain cs

plain_more : (cs : List ℕ) {c : ℕ} → Plain cs → (c ≡ LINE_FEED → ⊥) → Plain (cs ++ (c ∷ []))
plain_more [] u other = (other, tt)
plain_more (x ∷ cs) (h, t) other = (h, plain_more cs t other)

-- with a line feed behind them they are a line
line_ends : (cs rest : List ℕ) → Plain cs → lines_of (cs ++ (LINE_FEED ∷ rest)) ≡ cs ∷ lines_of rest
unfolding lines_of begins
line_ends [] rest u = refl
line_ends (c ∷ cs) rest (h, t) = rw (ne_eqb c LINE_FEED h, line_ends cs rest t)

-- and so they are at the end of the stream, if there are any
line_last : (c : ℕ) (cs : List ℕ) → Plain (c ∷ cs) → lines_of (c ∷ cs) ≡ (c ∷ cs) ∷ []
unfolding lines_of begins
line_last c [] (h, t) = rw (ne_eqb c LINE_FEED h)
line_last c (d ∷ cs) (h, t) = rw (ne_eqb c LINE_FEED h, line_last d cs t)

-- ---- the line that has begun

-- a line that may have so many characters has begun with these
record Holds (limit : ℕ) (cs : List ℕ) (p : Pending) : Type 0 where
  plain : Plain cs
  sized : length p.buffer ≡ limit
  counted : p.count ≡ min (length cs) (limit + 1)
  front : length cs ≤ limit → take (length cs) p.buffer ≡ cs

-- with none, to begin with
holds_none : (buffer : List ℕ) {limit : ℕ} → length buffer ≡ limit → Holds limit [] (pending 0 buffer)
holds_none buffer e = record { plain = tt; sized = e; counted = omega arith; front = λ h. refl }

module _ {limit : ℕ} {cs : List ℕ} {p : Pending} (l : Holds limit cs p) where
  few : length cs ≤ limit → p.count ≡ length cs
  few h = omega (arith, l.counted)

  many : limit < length cs → p.count ≡ limit + 1
  many h = omega (arith, l.counted)

  -- with one more
  holds_more : (c : ℕ) → (c ≡ LINE_FEED → ⊥) → Holds limit (cs ++ (c ∷ [])) (grown p c)
  unfolding grown
  holds_more c other =
      record {
        plain = plain_more cs l.plain other;
        sized = rw length-set l.sized;
        counted = rw (length-append, l.sized) (count (leb p.count limit) refl);
        front = λ h. fits (omega (arith, rw length-append at h));
      }
    where
      count : (t : Bool) → leb p.count limit ≡ t → cond t (p.count + 1) p.count ≡ min (length cs + 1) (limit + 1)
      count true e = omega (arith, l.counted, leb-true p.count limit e)
      count false e = omega (arith, l.counted, leb-false p.count limit e)

      fits : length cs < limit → take (length (cs ++ (c ∷ []))) (set p.buffer p.count c) ≡ cs ++ (c ∷ [])
      fits h =
          let is : p.count ≡ length cs = few (omega arith) in
          let room : length cs < length p.buffer = omega (arith, l.sized) in
          rw (length-append, add-one, is, take-suc-set p.buffer (length cs) c room, l.front (omega arith))

  -- it ends
  ends : found_line (ended p) p.buffer ≡ line_within limit cs ∷ []
  unfolding found_line ended line_within
  ends = go (leb (length cs) limit) refl
    where
      go : (t : Bool) → leb (length cs) limit ≡ t → found_line (ended p) p.buffer ≡ line_within limit cs ∷ []
      go true e =
          let h = leb-true (length cs) limit e in
          rw (e, few h, le-leb (length cs) (length p.buffer) (omega (arith, l.sized)), l.front h)
      go false e =
          let h = leb-false (length cs) limit e in
          rw (e, many h, lt-leb (limit + 1) (length p.buffer) (omega (arith, l.sized)))

-- the input ends
stream_ends : {limit : ℕ} (cs : List ℕ) {p : Pending} → Holds limit cs p → found_line (last p) p.buffer ≡ map (line_within limit) (lines_of cs)
unfolding found_line last lines_of
stream_ends [] l = let none = few l (omega arith) in rw none
stream_ends (c ∷ cs) {p} l =
    let some : p.count ≡ 0 → ⊥ = λ e. omega (arith, l.counted) in
    rw (ne_eqb p.count 0 some, ends l, line_last c cs l.plain)

-- ---- what is taken from a chunk

-- of a stream that begins with a line's first characters and goes on with a chunk, what was found are its first lines, and the
-- others are those of what is left
record Told (limit : ℕ) (cs chunk : List ℕ) (s : Taken) : Type 0 where
  begun : List ℕ
  holds : Holds limit begun s.rest
  lines :
      (behind : List ℕ)
      → map (line_within limit) (lines_of (cs ++ (chunk ++ behind)))
      ≡ found_line s.found s.rest.buffer ++ map (line_within limit) (lines_of (begun ++ (drop s.taken chunk ++ behind)))

tells : (limit : ℕ) (cs chunk : List ℕ) {p : Pending} → Holds limit cs p → Told limit cs chunk (split p chunk)
unfolding split later found_line
tells limit cs [] {p} l = record { begun = cs; holds = l; lines = λ behind. refl }
tells limit cs (c ∷ chunk) {p} l = go (eqb c LINE_FEED) refl (λ other. tells limit (cs ++ (c ∷ [])) chunk (holds_more l c other))
  where
    go :
        (t : Bool)
        → eqb c LINE_FEED ≡ t
        → ((c ≡ LINE_FEED → ⊥) → Told limit (cs ++ (c ∷ [])) chunk (split (grown p c) chunk))
        → Told limit cs (c ∷ chunk) (split p (c ∷ chunk))
    go true e again =
        let is : c ≡ LINE_FEED = eqb-true c LINE_FEED e in
        rw e
        (record {
          begun = [];
          holds = holds_none p.buffer l.sized;
          lines = λ behind. rw (is, line_ends cs (chunk ++ behind) l.plain, ends l);
        })
    go false e again =
        let t = again (eqb-false c LINE_FEED e) in
        rw e
        (record {
          begun = t.begun;
          holds = t.holds;
          lines = λ behind. rw add-one (rw (append_assoc cs (c ∷ []) (chunk ++ behind)) at (t.lines behind));
        })

-- ---- any chunks

-- the stream that chunks make, the first read from a place on
abbrev fed : ℕ → List (List ℕ) → List ℕ
fed at [] = []
fed at (chunk ∷ chunks) = drop at chunk ++ joined chunks

-- from the start it is all of it
fed_all : (chunks : List (List ℕ)) → fed 0 chunks ≡ joined chunks
unfolding joined
fed_all [] = refl
fed_all (chunk ∷ chunks) = refl

runs :
    (turns limit : ℕ) (cs : List ℕ) {p : Pending} (at : ℕ) (chunks : List (List ℕ))
    → Holds limit cs p
    → length (fed at chunks) + length chunks < turns
    → run turns p at chunks ≡ map (line_within limit) (lines_of (cs ++ fed at chunks))
unfolding run read_to
runs zero limit cs at chunks l h = absurd (omega (arith, h))
runs (suc turns) limit cs at [] l h = rw append-nil (stream_ends cs l)
runs (suc turns) limit cs {p} at (chunk ∷ chunks) l h =
    let s = split p (drop at chunk) in
    let t = tells limit cs (drop at chunk) l in
    rw (t.lines (joined chunks)) (go s t (split_takes p chunk at) (λ begun q place left. runs turns limit begun {p = q} place left) (leb (length chunk) (at + s.taken)) refl)
  where
    go :
        (s : Taken) (t : Told limit cs (drop at chunk) s)
        → (at < length chunk → 0 < s.taken)
        → ((begun : List ℕ) (q : Pending) (place : ℕ) (left : List (List ℕ))
        → Holds limit begun q
        → length (fed place left) + length left < turns
        → run turns q place left ≡ map (line_within limit) (lines_of (begun ++ fed place left)))
        → (done : Bool)
        → leb (length chunk) (at + s.taken) ≡ done
        → found_line s.found s.rest.buffer ++ run turns s.rest (read_to (at + s.taken) chunk chunks).at (read_to (at + s.taken) chunk chunks).chunks
        ≡ found_line s.found s.rest.buffer ++ map (line_within limit) (lines_of (t.begun ++ (drop s.taken (drop at chunk) ++ joined chunks)))
    go s t moves again true e =
        let all : drop (at + s.taken) chunk ≡ [] = drop_of_length-le chunk (leb-true (length chunk) (at + s.taken) e) in
        let fewer : length (fed 0 chunks) + length chunks < turns = rw fed_all (omega (arith, rw length-append at h)) in
        rw (e, drop-drop, all, again t.begun s.rest 0 chunks t.holds fewer, fed_all)
    go s t moves again false e =
        let some = leb-false (length chunk) (at + s.taken) e in
        let moved : 0 < s.taken = moves (omega arith) in
        let fewer : length (drop (at + s.taken) chunk ++ joined chunks) + suc (length chunks) < turns =
        rw (length-append, length-drop) (omega (arith, rw (length-append, length-drop) at h)) in
        rw (e, drop-drop, again t.begun s.rest (at + s.taken) (chunk ∷ chunks) t.holds fewer)

pub chunks_join : ChunksJoin
unfolding lines_within
chunks_join buffer chunks turns h =
    let all : length (fed 0 chunks) + length chunks < turns = rw fed_all h in
    rw (runs turns (length buffer) [] 0 chunks (holds_none buffer refl) all, fed_all)
