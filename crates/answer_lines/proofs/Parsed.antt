-- What was read of a line: a request with its payload in the buffer, or none; and that the longest line has room. Assumes nothing.
use Rattle.std.specs.Prelude.{Option, None, Some, Result, Ok, Err}
use Rattle.std.specs.Result.{result_unwrap_or}
use Prim.Native.Nat.{ℕ, ◌≤◌}
use native.Mathlib.Omega.{arith}
use mathlib.Core.Path.{◌≡◌, refl, sym, ◌∙◌}
use mathlib.Core.Bool.{Bool, true, false, cond}
use mathlib.Core.List.{List}
use lib.Dec.{leb}
use lib.ListN.{length, take, drop, length-append, length-drop}
use lib.Seq.{take_at, length-take-le}
use borrow.Author.Tests.{le-leb}
use Rattle.zigbee_types.specs.Answers.{says}
use Rattle.zigbee_types.specs.Lists.{option}
use Rattle.zigbee_types.specs.Outcome.{Outcome, answer, refusal, mapped, written, Wrote}
use Rattle.zigbee_types.specs.declared.Refusal.{Refusal}
use Rattle.aps_binding_table.specs.declared.binding.BindingTable.{BindingTable}
use Rattle.lines.specs.Lines.{whole}
use Rattle.hex_lines.specs.Hex.{bytes_in}
use Rattle.hex_lines.specs.RequestLine.{Request, is_request, cluster_in, request_in, with_room, heard_of, payload_left, LineRead}
use Rattle.hex_lines.specs.declared.ParsedRequest.{ParsedRequest}
use Rattle.hex_lines.proofs.Digits.{length_bytes}
use Rattle.our_device.specs.OurDevice.{ours}
use Rattle.answer_lines.specs.Session.{QUESTION, heard, unheard, said, Tells}

-- ---- a request with room for its payload

-- what a line came to, where its payload has room: the request, with its payload at the front of the buffer
record Stands (o : Option Request) (cluster n : ℕ) (after : List ℕ) : Type 0 where
  is : o ≡ Some (record { cluster = cluster; payload = take n after })
  within : n ≤ length after

stands : (o : Option Request) {before after : List ℕ} (cluster n : ℕ) → LineRead o before (says (Ok (Some (record { cluster = cluster; length = n })))) after → Stands o cluster n after
unfolding says with_room mapped heard_of payload_left written
stands None cluster n l = let e = l.said in let z : ◌≡◌ {A = ℕ} 0 1 = cc in absurd (omega arith)
stands (Some q) {before} {after} cluster n l = go (leb (length q.payload) (length before)) l.said l.left
  where
    go :
        (t : Bool)
        → answer (Some (record { cluster = cluster; length = n })) ≡ mapped heard_of (cond t (answer (Some q)) (refusal 5))
        → after ≡ payload_left before (cond t (answer (Some q)) (refusal 5))
        → Stands (Some q) cluster n after
    go true e left =
        let told : ◌≡◌ {A = ParsedRequest} (record { cluster = cluster; length = n }) (record { cluster = q.cluster; length = length q.payload }) = cc in
        let same : q.cluster ≡ cluster = λ i. (sym told i).cluster in
        let long : n ≡ length q.payload = λ i. (told i).length in
        record {
          is = rw (left, long, take_at q.payload (drop (length q.payload) before) (length q.payload) refl, same);
          within = rw (left, long, length-append) (omega arith);
        }
    go false e left = let z : ◌≡◌ {A = ℕ} 0 1 = cc in absurd (omega arith)

-- ---- none

no_request : (o : Option Request) {before after : List ℕ} → LineRead o before (says (Ok None)) after → o ≡ None
unfolding says with_room mapped heard_of
no_request None l = refl
no_request (Some q) {before} l = go (leb (length q.payload) (length before)) l.said
  where
    go : (t : Bool) → answer None ≡ mapped heard_of (cond t (answer (Some q)) (refusal 5)) → Some q ≡ None
    go true e = let z : ◌≡◌ {A = ℕ} 0 1 = cc in absurd (omega arith)
    go false e = let z : ◌≡◌ {A = ℕ} 0 1 = cc in absurd (omega arith)

-- ---- no room

-- a line of at most 4096 characters has at most 2045 bytes
payload_few : (line : List ℕ) {q : Request} → request_in line ≡ Some q → length line ≤ 4096 → length q.payload ≤ 2045
unfolding request_in
payload_few line {q} e h = go (is_request line) e
  where
    go : (t : Bool) → cond t (Some (record { cluster = cluster_in line; payload = bytes_in (drop 5 line) })) None ≡ Some q → length q.payload ≤ 2045
    go true e =
        let is : ◌≡◌ {A = Request} (record { cluster = cluster_in line; payload = bytes_in (drop 5 line) }) q = cc in
        rw (← is, length_bytes, length-drop) (omega arith)
    go false e = let z : ◌≡◌ {A = ℕ} 0 1 = cc in absurd (omega arith)

-- so it is never refused where there is room for so many
never_full :
    (line : List ℕ) (o : Option Request) {before after : List ℕ} (why : Refusal)
    → request_in line ≡ o
    → length line ≤ 4096
    → 2045 ≤ length before
    → LineRead o before (says (Err why)) after
    → ⊥
unfolding says with_room mapped heard_of
never_full line None why e h room l = let said = l.said in let z : ◌≡◌ {A = ℕ} 0 1 = cc in omega arith
never_full line (Some q) {before} why e h room l =
    let fits : length q.payload ≤ length before = omega (arith, payload_few line e h) in
    let said = rw (le-leb _ _ fits) at l.said in
    let z : ◌≡◌ {A = ℕ} 0 1 = cc in
    omega arith

-- ---- a line

module _ (line : List ℕ) {before buffer : List ℕ} {r : Result (Option ParsedRequest) Refusal} (l : LineRead (request_in line) before (says r) buffer) where
  module _ {q : ParsedRequest} (is : r ≡ Ok (Some q)) where
    there : Stands (request_in line) q.cluster q.length buffer
    there = stands (request_in line) q.cluster q.length (rw is at l)

    -- the payload stands in the buffer
    pub payload_within : q.length ≤ length buffer
    payload_within = there.within

    pub payload_long : q.length ≡ length (take q.length buffer)
    payload_long = sym (length-take-le q.length buffer payload_within)

    -- and its request is answered
    pub line_heard :
        (t : BindingTable) {v : BindingTable} {out later : List ℕ} {told : Outcome ℕ}
        → Tells (heard ours t (record { cluster = q.cluster; payload = take q.length buffer })) 261 out told v later
        → Tells (said ours t (whole line)) 261 out told v later
    unfolding said option
    line_heard t w = rw there.is w

  -- there is none
  pub line_unheard :
      {t : BindingTable} {out later : List ℕ} {told : Outcome ℕ}
      → r ≡ Ok None
      → Wrote (answer QUESTION) out told later
      → Tells (said ours t (whole line)) 261 out told t later
  unfolding said option unheard
  line_unheard is w = rw (no_request (request_in line) (rw is at l)) (record { wrote = w; table = refl; short = omega arith })

  -- that there is no room does not happen
  pub line_refused :
      {t : BindingTable} {out later : List ℕ} {told : Outcome ℕ} {why : Refusal}
      → 2045 ≤ length before
      → length line ≤ 4096
      → r ≡ Err why
      → Tells (said ours t (whole line)) 261 out told t later
  line_refused {why = why} room h is = absurd (never_full line (request_in line) why refl h room (rw is at l))

-- ---- a refusal taken for none

module _ (r : Result (Option ParsedRequest) Refusal) {o : Option ParsedRequest} (u : o ≡ result_unwrap_or r None) where
  -- a request is one that was read
  pub request_told : {q : ParsedRequest} → o ≡ Some q → r ≡ Ok (Some q)
  request_told is = go r (sym is ∙ u)
    where
      go : {q : ParsedRequest} (r : Result (Option ParsedRequest) Refusal) → Some q ≡ result_unwrap_or r None → r ≡ Ok (Some q)
      go (Ok p) e = rw e refl
      go (Err why) e = cc

  module _ (line : List ℕ) {before buffer : List ℕ} (h : length line ≤ 4096) (room : 2045 ≤ length before) (l : LineRead (request_in line) before (says r) buffer) where
    -- no line is refused where the longest has room: what was read is told
    not_refused : r ≡ Ok o
    not_refused = go r u l
      where
        go : (r : Result (Option ParsedRequest) Refusal) → o ≡ result_unwrap_or r None → LineRead (request_in line) before (says r) buffer → r ≡ Ok o
        go (Ok p) u l = rw u refl
        go (Err why) u l = absurd (never_full line (request_in line) why refl h room l)

    -- so none is none that was read
    pub none_told : o ≡ None → r ≡ Ok None
    none_told is = rw is at not_refused
