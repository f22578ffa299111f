-- A request that is heard: what `dispatch` answered, as text. Assumes nothing.
use Rattle.std.specs.Prelude.{Result, Ok, Err}
use Prim.Native.Nat.{ℕ, ◌≤◌}
use native.Mathlib.Omega.{arith}
use mathlib.Core.Path.{◌≡◌, refl, sym}
use mathlib.Core.List.{List}
use lib.ListN.{length, take, drop, length-append, length-take}
use lib.Seq.{take_at, length-take-le}
use Rattle.zigbee_types.specs.Outcome.{Outcome, answer, refusal, mapped, written, Wrote}
use Rattle.zigbee_types.specs.Refusals.{refusal_number}
use Rattle.zigbee_types.specs.declared.Refusal.{Refusal}
use Rattle.aps_binding_table.specs.declared.binding.BindingTable.{BindingTable}
use Rattle.zdo_requests.specs.declared.descriptor.MgmtLeaveReq.{MgmtLeaveReq}
use Rattle.zdo_discovery.specs.Host.{asking}
use Rattle.zdo_dispatcher.specs.Answers.{Answer, reply, leave, replied, told_of, buffer_after, response_says, answered, Dispatched}
use Rattle.zdo_dispatcher.specs.declared.dispatcher.Response.{Response}
use Rattle.zdo_dispatcher.specs.declared.dispatcher.Response.TheVariants as response
use Rattle.hex_lines.specs.RequestLine.{hex_line}
use Rattle.hex_lines.proofs.Line.{length_line}
use Rattle.decimal.proofs.Digits.{decimal_one}
use Rattle.our_device.specs.OurDevice.{ours}
use Rattle.answer_lines.specs.Session.{LEAVE, refusal_text, text_of, heard, response_text, Tells}
use Rattle.answer_lines.proofs.Texts.{one_digit}

-- ---- what was answered, as text

module _ (r : Result Response Refusal) (buffer : List ℕ) {before after : List ℕ} {told : Outcome ℕ} where
  -- a reply: its cluster, and its bytes at the front of the buffer
  pub text_reply :
      {cluster n : ℕ}
      → r ≡ Ok (response.Reply cluster n)
      → Wrote (answer (hex_line cluster (take n buffer))) before told after
      → Wrote (answer (response_text r buffer)) before told after
  unfolding response_text
  text_reply is w = rw is w

  -- a leave: its word
  pub text_leave :
      {q : MgmtLeaveReq} → r ≡ Ok (response.Leave q) → Wrote (answer LEAVE) before told after → Wrote (answer (response_text r buffer)) before told after
  unfolding response_text
  text_leave is w = rw is w

  -- a refusal: `R` and its number
  pub text_refused :
      {why : Refusal}
      → r ≡ Err why
      → Wrote (answer (refusal_text (refusal_number why))) before told after
      → Wrote (answer (response_text r buffer)) before told after
  unfolding response_text
  text_refused is w = rw is w

-- the front of a buffer in which a reply's length lies has as many bytes
pub reply_front :
    (r : Result Response Refusal) (buffer : List ℕ) (cluster n : ℕ)
    → ((c k : ℕ) → r ≡ Ok (response.Reply c k) → k ≤ length buffer)
    → r ≡ Ok (response.Reply cluster n)
    → n ≡ length (take n buffer)
reply_front r buffer cluster n within is = sym (length-take-le n buffer (within cluster n is))

-- ---- what `dispatch` told and left

-- a reply stands in its buffer
written_within : (bytes before : List ℕ) → length bytes ≤ length (written before (answer bytes))
unfolding written
written_within bytes before = rw length-append (omega arith)

module _ (o : Outcome Answer) {t u : BindingTable} {before after : List ℕ} (r : Result Response Refusal) (d : Dispatched o t before (response_says r) u after) where
  -- so its length is within it
  pub told_within : (cluster n : ℕ) → r ≡ Ok (response.Reply cluster n) → n ≤ length after
  unfolding response_says mapped told_of buffer_after
  told_within cluster n is = go o (rw is at d.said) d.buffer
    where
      go : (o : Outcome Answer) → answer (replied cluster n) ≡ mapped told_of o → after ≡ buffer_after before o → n ≤ length after
      go (answer (reply c bytes v)) e left =
          let same : n ≡ length bytes = cc in
          rw (left, same) (written_within bytes before)
      go (answer (leave q)) e left = let z : ◌≡◌ {A = ℕ} 0 1 = cc in omega arith
      go (refusal k) e left = let z : ◌≡◌ {A = ℕ} 0 1 = cc in omega arith

  -- and what was answered is, as text, what it came to
  text_is : response_text r after ≡ text_of o
  unfolding response_says mapped told_of buffer_after written response_text text_of
  text_is = go o r d.said d.buffer
    where
      go : (o : Outcome Answer) (r : Result Response Refusal) → response_says r ≡ mapped told_of o → after ≡ buffer_after before o → response_text r after ≡ text_of o
      go (answer (reply c bytes v)) (Ok (response.Reply cluster n)) e left =
          let cluster_is : cluster ≡ c = cc in
          let long : n ≡ length bytes = cc in
          rw (left, cluster_is, long, take_at bytes (drop (length bytes) before) (length bytes) refl)
      go (answer (reply c bytes v)) (Ok (response.Leave q)) e left = let z : ◌≡◌ {A = ℕ} 0 1 = cc in absurd (omega arith)
      go (answer (reply c bytes v)) (Err why) e left = let z : ◌≡◌ {A = ℕ} 0 1 = cc in absurd (omega arith)
      go (answer (leave q)) (Ok (response.Reply cluster n)) e left = let z : ◌≡◌ {A = ℕ} 0 1 = cc in absurd (omega arith)
      go (answer (leave q)) (Ok (response.Leave p)) e left = refl
      go (answer (leave q)) (Err why) e left = let z : ◌≡◌ {A = ℕ} 0 1 = cc in absurd (omega arith)
      go (refusal k) (Ok (response.Reply cluster n)) e left = let z : ◌≡◌ {A = ℕ} 0 1 = cc in absurd (omega arith)
      go (refusal k) (Ok (response.Leave q)) e left = let z : ◌≡◌ {A = ℕ} 0 1 = cc in absurd (omega arith)
      go (refusal k) (Err why) e left = let same : refusal_number why ≡ k = cc in rw same

-- ---- the longest text

-- with a reply of at most 128 bytes
response_short : (r : Result Response Refusal) (buffer : List ℕ) → length buffer ≡ 128 → length (response_text r buffer) ≤ 261
unfolding response_text
response_short (Ok (response.Reply cluster n)) buffer long = rw (length_line, length-take) (omega arith)
response_short (Ok (response.Leave q)) buffer long = omega arith
response_short (Err why) buffer long = rw (decimal_one (refusal_number why) (one_digit why)) (omega arith)

-- so a request is answered
pub request_answered :
    {t u : BindingTable} (cluster : ℕ) (payload : List ℕ) {buffer later before after : List ℕ} {told : Outcome ℕ} (r : Result Response Refusal)
    → length buffer ≡ 128
    → length later ≡ 128
    → Dispatched (answered ours t (asking cluster payload buffer)) t buffer (response_says r) u later
    → Wrote (answer (response_text r later)) before told after
    → Tells (heard ours t (record { cluster = cluster; payload = payload })) 261 before told u after
unfolding heard asking
request_answered cluster payload {later = later} r long longer d w =
    let same = rw long at d in
    let text = text_is _ r same in
    record { wrote = rw text at w; table = same.table; short = rw text at (response_short r later longer) }
