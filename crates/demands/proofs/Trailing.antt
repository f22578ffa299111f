-- What stands behind a reply is ignored, and lists that are read stand at their places in the whole reply. From what holds of fields
-- that lie within bytes. Assumes nothing.
use Prim.Native.Nat.{ℕ, zero, suc, ◌+◌, ◌*◌, ◌≤◌}
use native.Mathlib.Omega.{arith}
use mathlib.Core.Path.{◌≡◌, refl, sym, ap}
use mathlib.Core.Bool.{Bool, true, false, cond}
use mathlib.Core.List.{List, [], ◌∷◌, ◌++◌}
use lib.Dec.{eqb}
use lib.ListN.{length, get_or, drop, replicate, length-append, length-drop, take-append-drop}
use lib.Seq.{take-append-le, drop-append-le}
use borrow.Author.Tests.{le-leb}
use Rattle.zigbee_types.specs.Lists.{part}
use Rattle.zigbee_types.specs.Outcome.{Outcome, answer, refusal, and_then, mapped, needing}
use Rattle.zigbee_types.specs.Bytes.{number_at}
use Rattle.zigbee_types.specs.Layout.{size, fields_at, field_of, parsed, counted, behind, entries_at}
use Rattle.zigbee_types.specs.Statuses.{SUCCESS}
use Rattle.zigbee_types.specs.declared.Places.{Places}
use Rattle.zigbee_types.proofs.Fields.{number_at_drop}
use Rattle.zigbee_types.proofs.Outcomes.{refused, held, answered}
use Rattle.node_descriptor.specs.NodeDescriptor.{node_descriptor_in}
use Rattle.node_power_descriptor.specs.PowerDescriptor.{power_widths, power_descriptor_in}
use Rattle.simple_descriptor.specs.SimpleDescriptor.{simple_descriptor_in, simple_fields}
use Rattle.zigbee_types.specs.Answers.{says}
use Rattle.simple_descriptor.specs.declared.SimpleDescriptorFields.{SimpleDescriptorFields}
use Rattle.zdo_readers.specs.Readers.{header_widths, header_in, with_descriptor, without_descriptor, descriptor_reply_in, node_reply_in, power_reply_in, status_widths, status_reply_in}
use Rattle.zdo_readers.specs.declared.readers.ReplyHeader.{ReplyHeader}
use Rattle.zdo_list_readers.specs.ListReaders.{list_behind, list_reply_in, match_error_widths, match_reply_in_as, match_reply_in, shifted, shifted_fields, simple_within, simple_reply_in}
use Rattle.zdo_list_readers.specs.declared.readers.ListReply.{ListReply}
use Rattle.zdo_list_readers.specs.declared.readers.MatchReply.{MatchReply}
use Rattle.zdo_list_readers.specs.declared.readers.MatchReply.TheVariants.{Matched}
use Rattle.zdo_list_readers.proofs.Listed.{list_long}
use Rattle.zdo_list_readers.proofs.Within.{lists_end}
use Rattle.demands.specs.Trailing.{IgnoresTrailing, TrailingIgnored, PlacesStand}
use Rattle.demands.proofs.ReadersRefuse.{list_end}

-- ---- fields within bytes

module _ (bytes rest : List ℕ) where
  -- a part of bytes is the same with more behind them
  part_more : (at n : ℕ) → at + n ≤ length bytes → part at n (bytes ++ rest) ≡ part at n bytes
  part_more at n h =
      rw (drop-append-le at bytes rest (omega arith)) (take-append-le n (drop at bytes) rest (rw length-drop (omega arith)))

  -- so is the number in it
  number_more : (k at : ℕ) → at + k ≤ length bytes → number_at k (bytes ++ rest) at ≡ number_at k bytes at
  unfolding number_at
  number_more k at h = rw (part_more at k h)

  -- so are the numbers in fields
  fields_more : (ws : List ℕ) (at : ℕ) → at + size ws ≤ length bytes → fields_at ws (bytes ++ rest) at ≡ fields_at ws bytes at
  unfolding fields_at size
  fields_more [] at h = refl
  fields_more (w ∷ ws) at h = rw (number_more w at (omega arith), fields_more ws (at + w) (omega arith))

  -- and so is a list that is counted there
  counted_more : (at : ℕ) → at + 1 ≤ length bytes → counted (bytes ++ rest) at ≡ counted bytes at
  unfolding counted
  counted_more at h = rw (number_more 1 at h)

-- fields behind n bytes
fields_drop : (ws : List ℕ) (n : ℕ) (bytes : List ℕ) (at : ℕ) → fields_at ws (drop n bytes) at ≡ fields_at ws bytes (n + at)
unfolding fields_at
fields_drop [] n bytes at = refl
fields_drop (w ∷ ws) n bytes at =
    let further : n + (at + w) ≡ n + at + w = omega arith in
    rw (number_at_drop, fields_drop ws n bytes (at + w), further)

-- entries of w bytes take w bytes each
size_replicate : (w n : ℕ) → size (replicate n w) ≡ w * n
unfolding size
size_replicate w zero = omega arith
size_replicate w (suc n) = omega (arith, size_replicate w n)

module _ (start len : ℕ) (bytes : List ℕ) where
  -- fields of a part of bytes stand in all of them, as much further on as the part begins
  fields_within :
      (ws : List ℕ) (at : ℕ) → at + size ws ≤ length (part start len bytes) → fields_at ws bytes (start + at) ≡ fields_at ws (part start len bytes) at
  fields_within ws at h = rw (take-append-drop, fields_drop) at (fields_more (part start len bytes) (drop len (drop start bytes)) ws at h)

  -- so do the entries of a list
  entries_within :
      (w : ℕ) (p : Places) → behind w p ≤ length (part start len bytes) → entries_at w bytes (shifted start p) ≡ entries_at w (part start len bytes) p
  unfolding entries_at behind shifted
  entries_within w p h = fields_within (replicate p.count w) p.start (rw size_replicate h)

-- ---- outcomes

module _ {A : Type 0} where
  -- bytes that an answer needs are there with more behind them
  needing_more : (n : ℕ) (bytes rest : List ℕ) (a : A) {r : A} → needing n bytes a ≡ answer r → needing n (bytes ++ rest) a ≡ answer r
  unfolding needing
  needing_more n bytes rest a e =
      let (long, same) = held n bytes a e in
      let room : n ≤ length (bytes ++ rest) = rw length-append (omega arith) in
      rw (le-leb n (length (bytes ++ rest)) room) same

  -- a frame of fields that was read has bytes for them
  parsed_long : (ws : List ℕ) (make : (ℕ → ℕ) → A) (bytes : List ℕ) {r : A} → parsed ws make bytes ≡ answer r → size ws ≤ length bytes
  unfolding parsed
  parsed_long ws make bytes e = let (long, _) = held (size ws) bytes (make (field_of ws bytes)) e in long

  -- and is read with more behind it
  parsed_more : (ws : List ℕ) (make : (ℕ → ℕ) → A) → IgnoresTrailing (parsed ws make)
  unfolding parsed
  parsed_more ws make reply rest r e =
      let same : fields_at ws (reply ++ rest) 0 ≡ fields_at ws reply 0 = fields_more reply rest ws 0 (omega (arith, parsed_long ws make reply e)) in
      rw (ap (λ (values : List ℕ). make (λ i. get_or values i 0)) same) (needing_more (size ws) reply rest (make (field_of ws reply)) e)

  -- what is read only where a test holds
  where_more : (t : Bool) (read : List ℕ → Outcome A) (a : A) → IgnoresTrailing read → IgnoresTrailing (λ reply. cond t (read reply) (answer a))
  where_more true read a h reply rest r e = h reply rest r e
  where_more false read a h reply rest r e = e

  module _ {B : Type 0} where
    -- an answer that is seen through f was one
    seen : (f : A → B) (o : Outcome A) {b : B} → mapped f o ≡ answer b → (a : A) × (o ≡ answer a) × (answer (f a) ≡ answer b)
    unfolding mapped
    seen f (answer a) e = (a, refl, e)
    seen f (refusal n) e = absurd (refused e)

    -- what is read and then read on, which may rely on what was read
    then_more :
        (first : List ℕ → Outcome A) (next : A → List ℕ → Outcome B)
        → IgnoresTrailing first
        → ((reply rest : List ℕ) (a : A) (b : B) → first reply ≡ answer a → next a reply ≡ answer b → next a (reply ++ rest) ≡ answer b)
        → IgnoresTrailing (λ reply. and_then (first reply) (λ a. next a reply))
    unfolding and_then
    then_more first next h k reply rest b e =
        let (a, came, on) = answered (first reply) (λ a. next a reply) e in
        rw (h reply rest a came) (k reply rest a b came on)

    -- and what is read and seen through f
    mapped_more : (f : A → B) (read : List ℕ → Outcome A) → IgnoresTrailing read → IgnoresTrailing (λ reply. mapped f (read reply))
    unfolding mapped
    mapped_more f read h reply rest b e = let (a, came, on) = seen f (read reply) e in rw (h reply rest a came) on

-- ---- header, node and power

header_more : IgnoresTrailing header_in
unfolding header_in
header_more = parsed_more header_widths _

-- a header has four bytes
header_four : (reply : List ℕ) {h : ReplyHeader} → header_in reply ≡ answer h → 4 ≤ length reply
unfolding header_in header_widths size
header_four reply e = parsed_long header_widths _ reply e

-- a reply with a descriptor, by its reader
described_more :
    {D : Type 0} (descriptorIn : List ℕ → Outcome D)
    → IgnoresTrailing descriptorIn
    → IgnoresTrailing (descriptor_reply_in descriptorIn)
unfolding descriptor_reply_in
described_more descriptorIn more =
    then_more header_in _ header_more
    (λ reply rest h r came e.
    rw (drop-append-le 4 reply rest (header_four reply came))
    (where_more (eqb h.status SUCCESS) _ (without_descriptor h) (mapped_more (with_descriptor h) descriptorIn more) (drop 4 reply) rest r e))

node_more : IgnoresTrailing node_descriptor_in
unfolding node_descriptor_in
node_more = parsed_more _ _

power_more : IgnoresTrailing power_descriptor_in
unfolding power_descriptor_in
power_more = then_more _ _ (parsed_more power_widths _) (λ reply rest a b came e. e)

-- ---- lists

list_whole : (reply : List ℕ) (r : ListReply) → list_reply_in reply ≡ answer r → behind 1 r.list ≤ length reply
unfolding says
list_whole reply r e = list_long reply r (sym e)

list_more : IgnoresTrailing list_reply_in
unfolding list_reply_in list_behind
list_more =
    then_more header_in (λ h reply. list_behind h reply) header_more
    (λ reply rest h r came e.
    let (long, _) = held (behind 1 (counted reply 4)) reply _ e in
    rw (counted_more reply rest 4 (omega (arith, long, list_end reply))) (needing_more _ reply rest _ e))

-- a match reply, by whether it succeeds
match_as_more : (t : Bool) → IgnoresTrailing (match_reply_in_as t)
unfolding match_reply_in_as
match_as_more true = mapped_more Matched list_reply_in list_more
match_as_more false = parsed_more match_error_widths _

-- in either form it has a status
match_two : (t : Bool) (reply : List ℕ) {r : MatchReply} → match_reply_in_as t reply ≡ answer r → 1 + 1 ≤ length reply
unfolding match_reply_in_as match_error_widths size list_reply_in
match_two true reply e =
    let (l, came, _) = seen Matched (list_reply_in reply) e in
    let (h, front, _) = answered (header_in reply) _ came in
    omega (arith, header_four reply front)
match_two false reply e = omega (arith, parsed_long match_error_widths _ reply e)

match_more : IgnoresTrailing match_reply_in
unfolding match_reply_in
match_more reply rest r e =
    let ok : Bool = eqb (number_at 1 reply 1) SUCCESS in
    rw (number_more reply rest 1 1 (match_two ok reply e)) (match_as_more ok reply rest r e)

-- ---- simple

simple_more : IgnoresTrailing simple_reply_in
unfolding simple_reply_in simple_within behind
simple_more =
    then_more list_reply_in (λ l reply. simple_within l reply) list_more
    (λ reply rest l r came e.
    rw (part_more reply rest l.list.start l.list.count (omega (arith, list_whole reply l came))) e)

simple_stands :
    (reply : List ℕ) (start len : ℕ) (d : SimpleDescriptorFields)
    → simple_descriptor_in (part start len reply) ≡ answer d
    → simple_fields reply (shifted_fields start d) ≡ simple_fields (part start len reply) d
unfolding says simple_fields shifted_fields
simple_stands reply start len d e =
    let (first, second) = lists_end (part start len reply) d (sym e) in
    rw (entries_within start len reply 2 d.input_clusters first, entries_within start len reply 2 d.output_clusters second)

-- ---- all of them

pub trailing_ignored : TrailingIgnored
unfolding node_reply_in power_reply_in status_reply_in
trailing_ignored =
    record {
      header = header_more;
      node = described_more node_descriptor_in node_more;
      power = described_more power_descriptor_in power_more;
      list = list_more;
      match = match_more;
      simple = simple_more;
      status = parsed_more status_widths _;
    }

pub places_stand : PlacesStand
places_stand = record { list = list_whole; simple = simple_stands }
