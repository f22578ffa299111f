-- Which replies the readers refuse: those with too few bytes, a power reply whose source is not usable, and a simple reply whose
-- descriptor runs over its length. Assumes nothing.
use Prim.Native.Nat.{ℕ, ◌+◌, ◌*◌, ◌/◌, ◌%◌, ◌-◌, ◌^◌, ◌≤◌, ◌<◌}
use native.Mathlib.Omega.{arith}
use mathlib.Core.Path.{◌≡◌, refl, sym, ap}
use mathlib.Core.Bool.{Bool, true, false, ◌||◌, ◌&&◌, not, cond, or_assoc, or-false, and-true, and-false}
use mathlib.Core.List.{List}
use lib.Dec.{eqb, leb, ltb}
use lib.ListN.{length, drop, length-drop}
use lib.Seq.{length-take-le, get_or-drop, get_or-take}
use borrow.Author.Tests.{eqb-true, eqb-false, ltb-true, ltb-false, leb-false, le-leb, lt-leb, lt-ltb}
use Rattle.zigbee_types.specs.Outcome.{Outcome, answer, refusal, and_then, mapped, needing}
use Rattle.zigbee_types.specs.Lists.{part}
use Rattle.zigbee_types.specs.Bytes.{bit_at, number_at}
use Rattle.zigbee_types.specs.Layout.{size, fields_at, parsed, counted, behind, lists_in}
use Rattle.zigbee_types.specs.declared.Places.{Places}
use Rattle.zigbee_types.proofs.Fields.{read_byte}
use Rattle.node_descriptor.specs.NodeDescriptor.{node_widths, node_descriptor_in}
use Rattle.node_power_descriptor.specs.PowerDescriptor.{power_widths, power_descriptor_in, usable}
use Rattle.node_power_descriptor.proofs.Usable.{usable_sources}
use Rattle.simple_descriptor.specs.SimpleDescriptor.{simple_descriptor_in}
use Rattle.zdo_readers.specs.Readers.{header_widths, header_in, descriptor_reply_in, node_reply_in, power_reply_in, node_desc_rsp_in, addr_widths, addr_reply_in, status_widths, status_reply_in}
use Rattle.zdo_readers.specs.declared.readers.ReplyHeader.{ReplyHeader}
use Rattle.zdo_list_readers.specs.declared.readers.ListReply.{ListReply}
use Rattle.zdo_list_readers.specs.ListReaders.{list_behind, list_reply_in, match_error_widths, match_reply_in_as, match_reply_in, simple_within, simple_reply_in}
use Rattle.demands.specs.ReadersRefuse.{refusal_of, malformed_if, byte_of, shorter, succeeds, runs_over, ReadersRefuse}

-- ---- tests and bytes

-- two comparisons fail together
ltb_same : (a b c d : ℕ) → (b ≤ a → d ≤ c) → (d ≤ c → b ≤ a) → ltb a b ≡ ltb c d
ltb_same a b c d there back = go (ltb a b) (ltb c d) refl refl
  where
    go : (s t : Bool) → ltb a b ≡ s → ltb c d ≡ t → s ≡ t
    go true true e f = refl
    go true false e f = absurd (let h = back (ltb-false c d f) in omega (arith, ltb-true a b e))
    go false true e f = absurd (let h = there (ltb-false a b e) in omega (arith, ltb-true c d f))
    go false false e f = refl

-- bytes are too few for m, or behind those for n, exactly if they are too few for both
shorter_behind : (m n : ℕ) (bytes : List ℕ) → (shorter bytes m || shorter (drop m bytes) n) ≡ shorter bytes (m + n)
shorter_behind m n bytes = go (shorter bytes m) refl
  where
    go : (t : Bool) → shorter bytes m ≡ t → (t || shorter (drop m bytes) n) ≡ shorter bytes (m + n)
    go true e = let few = ltb-true (length bytes) m e in rw (lt-ltb (length bytes) (m + n) (omega arith))
    go false e =
        let held = ltb-false (length bytes) m e in
        rw length-drop (ltb_same (length bytes - m) n (length bytes) (m + n) (λ h. omega arith) (λ h. omega arith))

-- the same where a test decides whether there is something behind them, which may also be refused for another reason
shorter_where :
    (m n : ℕ) (bytes : List ℕ) (t over : Bool)
    → (shorter bytes m || (t && (shorter (drop m bytes) n || over))) ≡ (shorter bytes (cond t (m + n) m) || (t && over))
shorter_where m n bytes true over = rw (← or_assoc, shorter_behind)
shorter_where m n bytes false over = refl

-- a byte that is read as a number
pub byte_read : (bytes : List ℕ) (at : ℕ) → number_at 1 bytes at ≡ byte_of bytes at
byte_read bytes at = sym (read_byte bytes at).told

-- ---- outcomes

module _ {A : Type 0} where
  -- handing an answer on changes nothing
  then_answer : (o : Outcome A) → and_then o answer ≡ o
  unfolding and_then
  then_answer (answer a) = refl
  then_answer (refusal n) = refl

  module _ {B : Type 0} where
    -- seen through f, it is the same refusal
    refuse_mapped : (f : A → B) (o : Outcome A) → refusal_of (mapped f o) ≡ refusal_of o
    unfolding refusal_of mapped
    refuse_mapped f (answer a) = refl
    refuse_mapped f (refusal n) = refl

    -- what needs n bytes, and what comes next, which may rely on them: refused for too few, and where that is refused
    refuse_next :
        (n : ℕ) (bytes : List ℕ) (a : A) (next : A → Outcome B) (over : Bool)
        → (n ≤ length bytes → refusal_of (next a) ≡ malformed_if over)
        → refusal_of (and_then (needing n bytes a) next) ≡ malformed_if (shorter bytes n || over)
    unfolding refusal_of and_then needing
    refuse_next n bytes a next over h = go (shorter bytes n) refl
      where
        go : (t : Bool) → shorter bytes n ≡ t → refusal_of (and_then (needing n bytes a) next) ≡ malformed_if (t || over)
        go true e = rw (lt-leb n (length bytes) (ltb-true (length bytes) n e))
        go false e = let held = ltb-false (length bytes) n e in rw (le-leb n (length bytes) held) (h held)

    -- what needs m bytes, and then n that are no fewer, needs n
    needing_twice :
        (m n : ℕ) (bytes : List ℕ) (a : A) (f : A → B)
        → m ≤ n
        → and_then (needing m bytes a) (λ x. needing n bytes (f x)) ≡ needing n bytes (f a)
    unfolding and_then needing
    needing_twice m n bytes a f h = go (leb m (length bytes)) refl
      where
        go : (t : Bool) → leb m (length bytes) ≡ t → and_then (cond t (answer a) (refusal 3)) (λ x. needing n bytes (f x)) ≡ needing n bytes (f a)
        go true e = refl
        go false e = let few = leb-false m (length bytes) e in rw (lt-leb n (length bytes) (omega arith))

  module _ (t : Bool) (o : Outcome A) (a : A) (over : Bool) (h : refusal_of o ≡ malformed_if over) where
    -- what is made only where a test holds
    refuse_where : refusal_of (cond t o (answer a)) ≡ malformed_if (t && over)
    unfolding refusal_of
    refuse_where = elim t as (λ t. refusal_of (cond t o (answer a)) ≡ malformed_if (t && over)) [ true ↦ h | false ↦ refl ]

    -- and only where it does not
    refuse_else : refusal_of (cond t (answer a) o) ≡ malformed_if (not t && over)
    unfolding refusal_of
    refuse_else = elim t as (λ t. refusal_of (cond t (answer a) o) ≡ malformed_if (not t && over)) [ true ↦ refl | false ↦ h ]

  -- what needs n bytes and no more
  refuse_needing : (n : ℕ) (bytes : List ℕ) (a : A) → refusal_of (needing n bytes a) ≡ malformed_if (shorter bytes n)
  unfolding refusal_of
  refuse_needing n bytes a = rw (then_answer, or-false) at (refuse_next n bytes a answer false (λ _. refl))

  -- a frame of fields
  refuse_parsed : (ws : List ℕ) (make : (ℕ → ℕ) → A) (bytes : List ℕ) → refusal_of (parsed ws make bytes) ≡ malformed_if (shorter bytes (size ws))
  unfolding parsed
  refuse_parsed ws make bytes = refuse_needing (size ws) bytes _

-- ---- descriptors

refuse_node : (bytes : List ℕ) → refusal_of (node_descriptor_in bytes) ≡ malformed_if (shorter bytes 13)
unfolding node_descriptor_in node_widths size
refuse_node bytes = refuse_parsed node_widths _ bytes

-- a power descriptor also where its source is not usable
refuse_power : (bytes : List ℕ) → refusal_of (power_descriptor_in bytes) ≡ malformed_if (shorter bytes 2 || not (usable (byte_of bytes 0 / 16) (byte_of bytes 1 % 16)))
unfolding power_descriptor_in power_widths parsed size fields_at refusal_of
refuse_power bytes =
    let takes : Bool = usable (byte_of bytes 0 / 16) (byte_of bytes 1 % 16) in
    refuse_next 2 bytes _ _ _ (λ _. rw (byte_read, byte_read, ← and-true (not takes)) (refuse_else takes (refusal 3) _ true refl))

-- a bit of the high half of a byte is a bit of the byte
high_bit : (i b : ℕ) → b / 16 / 2 ^ i ≡ b / 2 ^ (4 + i) → bit_at i (b / 16) ≡ bit_at (4 + i) b
unfolding bit_at
high_bit i b e = rw e

-- so a source is usable by its bit in the byte that has the available ones in its high half
usable_bits : (b s : ℕ) → usable (b / 16) s ≡ ((eqb s 1 && bit_at 4 b) || ((eqb s 2 && bit_at 5 b) || (eqb s 4 && bit_at 6 b)))
usable_bits b s = go (eqb s 1) (eqb s 2) (eqb s 4) refl refl refl
  where
    go :
        (one two four : Bool)
        → eqb s 1 ≡ one
        → eqb s 2 ≡ two
        → eqb s 4 ≡ four
        → usable (b / 16) s ≡ ((eqb s 1 && bit_at 4 b) || ((eqb s 2 && bit_at 5 b) || (eqb s 4 && bit_at 6 b)))
    go true two four e f g =
        let bit : usable (b / 16) 1 ≡ bit_at 0 (b / 16) = cc (usable_sources.named (b / 16)) in
        rw (eqb-true s 1 e, or-false, bit) (high_bit 0 b (omega arith))
    go false true four e f g =
        let bit : usable (b / 16) 2 ≡ bit_at 1 (b / 16) = cc (usable_sources.named (b / 16)) in
        rw (eqb-true s 2 f, or-false, bit) (high_bit 1 b (omega arith))
    go false false true e f g =
        let bit : usable (b / 16) 4 ≡ bit_at 2 (b / 16) = cc (usable_sources.named (b / 16)) in
        rw (eqb-true s 4 g, bit) (high_bit 2 b (omega arith))
    go false false false e f g = rw (e, f, g) (usable_sources.others (b / 16) s (eqb-false s 1 e) (eqb-false s 2 f) (eqb-false s 4 g))

-- where a simple descriptor of these bytes ends
abbrev end_of : (ℕ → ℕ) → ℕ
end_of f = 8 + 2 * f 6 + 2 * f (7 + 2 * f 6)

refuse_simple : (bytes : List ℕ) → refusal_of (simple_descriptor_in bytes) ≡ malformed_if (shorter bytes (end_of (byte_of bytes)))
unfolding simple_descriptor_in lists_in counted behind
refuse_simple bytes = rw (refuse_mapped, refuse_needing, byte_read, byte_read) (ap (λ n. malformed_if (shorter bytes n)) (omega arith))

module _ (len : ℕ) (f g : ℕ → ℕ) (same : (i : ℕ) → i < len → f i ≡ g i) where
  -- of bytes that agree up to a length: where a descriptor of the one ends within it, so does one of the other
  ends_within : end_of f ≤ len → end_of g ≤ len
  ends_within h =
      let first : f 6 ≡ g 6 = same 6 (omega arith) in
      let second : f (7 + 2 * f 6) ≡ g (7 + 2 * f 6) = same (7 + 2 * f 6) (omega arith) in
      rw (← first, ← second) h

-- ---- replies

module _ (reply : List ℕ) where
  -- a node or a power reply, by the bytes that its descriptor needs, and what else it is refused for
  refuse_described :
      {D : Type 0} (descriptorIn : List ℕ → Outcome D) (n : ℕ) (over : Bool)
      → refusal_of (descriptorIn (drop 4 reply)) ≡ malformed_if (shorter (drop 4 reply) n || over)
      → refusal_of (descriptor_reply_in descriptorIn reply) ≡ malformed_if (shorter reply (cond (succeeds reply) (4 + n) 4) || (succeeds reply && over))
  unfolding descriptor_reply_in header_in parsed size header_widths fields_at
  refuse_described descriptorIn n over h =
      rw (← shorter_where) (refuse_next 4 reply _ _ _ (λ _. rw byte_read (refuse_where (succeeds reply) _ _ _ (rw refuse_mapped h))))

  -- a list that is counted at byte 4, a byte for each entry, ends here
  pub list_end : behind 1 (counted reply 4) ≡ 5 + byte_of reply 4
  unfolding behind counted
  list_end = omega (arith, byte_read reply 4)

  -- a list reply needs it whole
  list_needs : (l : ListReply) × (list_reply_in reply ≡ needing (behind 1 (counted reply 4)) reply l) × (l.list ≡ counted reply 4)
  unfolding list_reply_in header_in parsed size header_widths list_behind
  list_needs =
      let list : Places = counted reply 4 in
      (_, needing_twice 4 (behind 1 list) reply _ (λ h. record { header = h; list = list }) (omega (arith, list_end)), refl)

  refuse_list : refusal_of (list_reply_in reply) ≡ malformed_if (shorter reply (5 + byte_of reply 4))
  refuse_list =
      let (l, needs, _) = list_needs in
      rw (needs, list_end) (refuse_needing (5 + byte_of reply 4) reply l)

  -- a match reply, by whether it succeeds
  refuse_match : (t : Bool) → refusal_of (match_reply_in_as t reply) ≡ malformed_if (shorter reply (cond t (5 + byte_of reply 4) 3))
  unfolding match_reply_in_as match_error_widths size
  refuse_match true = rw refuse_mapped refuse_list
  refuse_match false = refuse_parsed match_error_widths _ reply

  -- a simple descriptor within its length
  refuse_within :
      (l : ListReply)
      → l.list ≡ counted reply 4
      → 5 + byte_of reply 4 ≤ length reply
      → refusal_of (simple_within l reply) ≡ malformed_if (runs_over reply)
  unfolding simple_within counted
  refuse_within l place long =
      let len : ℕ = byte_of reply 4 in
      let bytes : List ℕ = part 5 len reply in
      let f : ℕ → ℕ = byte_of bytes in
      let g : ℕ → ℕ = λ i. byte_of reply (5 + i) in
      let whole : length bytes ≡ len = length-take-le len (drop 5 reply) (rw length-drop (omega arith)) in
      let there : (i : ℕ) → i < len → f i ≡ g i = λ i h. rw (get_or-take len (drop 5 reply) i 0 h, get_or-drop) in
      let same : ltb len (end_of f) ≡ ltb len (end_of g) =
      ltb_same len (end_of f) len (end_of g) (ends_within len f g there) (ends_within len g f (λ i h. sym (there i h))) in
      let second : 5 + (7 + 2 * byte_of reply 11) ≡ 12 + 2 * byte_of reply 11 = omega arith in
      rw (place, byte_read) (refuse_else (eqb len 0) _ _ _ (rw (refuse_mapped, refuse_simple bytes, whole, same, second)))

pub readers_refuse : ReadersRefuse
unfolding header_in node_desc_rsp_in node_reply_in power_reply_in match_reply_in simple_reply_in addr_reply_in status_reply_in header_widths addr_widths status_widths size
readers_refuse =
    record {
      header = λ reply. refuse_parsed header_widths _ reply;
      mask = λ reply. refuse_parsed header_widths _ reply;
      node = λ reply. rw (and-false, or-false) at (refuse_described reply node_descriptor_in 13 false (rw or-false (refuse_node (drop 4 reply))));
      power = λ reply. rw (get_or-drop, get_or-drop, usable_bits) at (refuse_described reply power_descriptor_in 2 _ (refuse_power (drop 4 reply)));
      list = refuse_list;
      match = λ reply. rw byte_read (refuse_match reply (succeeds reply));
      simple = λ reply.
          let (l, needs, place) = list_needs reply in
          rw (needs, list_end) (refuse_next (5 + byte_of reply 4) reply l _ (runs_over reply) (refuse_within reply l place));
      address = λ reply. refuse_parsed addr_widths _ reply;
      status = λ reply. refuse_parsed status_widths _ reply;
    }
