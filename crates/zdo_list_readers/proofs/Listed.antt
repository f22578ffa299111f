-- Replies that carry a list behind the header: where it stands and why they are refused; and the match reply, by its status.
-- Assumes nothing.
use Rattle.std.specs.Prelude.{Result, Ok, Err}
use Rattle.std.specs.Result.{IsErr, IsErrAnd}
use Prim.Native.Nat.{ℕ, ◌+◌, ◌*◌, ◌≤◌, ◌<◌}
use native.Mathlib.Omega.{arith}
use mathlib.Core.Path.{◌≡◌, refl, sym}
use mathlib.Core.Bool.{Bool, true, false}
use mathlib.Core.List.{List}
use lib.Dec.{eqb}
use lib.ListN.{length}
use borrow.Author.Tests.{ne_eqb, le-leb, lt-leb}
use Rattle.zigbee_types.specs.declared.Refusal.{Refusal}
use Rattle.zigbee_types.specs.Outcome.{refusal, and_then, mapped, needing}
use Rattle.zigbee_types.specs.Bytes.{number_at, FieldRead}
use Rattle.zigbee_types.specs.Layout.{size, counted, behind}
use Rattle.zigbee_types.specs.Statuses.{SUCCESS}
use Rattle.zigbee_types.specs.declared.Refusal.TheVariants.{Malformed}
use Rattle.zigbee_types.proofs.Fields.{read_byte}
use Rattle.zigbee_types.proofs.Runs.{three_parse, run_short}
use Rattle.zigbee_types.proofs.Counted.{list_counted}
use Rattle.zigbee_types.proofs.Outcomes.{held, answered}
use Rattle.zigbee_types.proofs.Passed.{passed_mapped}
use Rattle.zdo_readers.specs.Readers.{header_widths, header_in}
use Rattle.zdo_readers.specs.declared.readers.ReplyHeader.{ReplyHeader}
use Rattle.zdo_list_readers.specs.ListReaders.{list_behind, list_reply_in, match_error_widths, match_reply_in_as, match_reply_in}
use Rattle.zigbee_types.specs.Answers.{says}
use Rattle.zdo_list_readers.specs.declared.readers.ListReply.{ListReply}
use Rattle.zdo_list_readers.specs.declared.readers.MatchReply.{MatchReply}
use Rattle.zdo_list_readers.specs.declared.readers.MatchReply.TheVariants.{Matched, Failed}

-- ---- a list behind a header: `behind` leans on these. Where the list ends and begins is said by arithmetic, so that another expression of
-- the same number is proved too

module _ (h : ReplyHeader) (bytes : List ℕ) where
  -- refused where there is no count
  pub list_none : length bytes < 5 → says (Err Malformed) ≡ list_behind h bytes
  unfolding says list_behind needing behind counted
  list_none l = let short : length bytes < 4 + 1 + 1 * number_at 1 bytes 4 = omega arith in rw (lt-leb _ _ short)

  module _ {v n : ℕ} (p : FieldRead 1 bytes 4 v n) where
    -- and where the list is not whole
    pub list_cut : length bytes < n + v → says (Err Malformed) ≡ list_behind h bytes
    unfolding says list_behind needing
    list_cut l = let r = list_counted 1 p in rw (← r.told, ← r.moved, lt-leb (n + 1 * v) (length bytes) (omega arith))

    -- otherwise it stands behind its count
    pub list_whole :
        {s : ℕ} → s ≡ n → n + v ≤ length bytes → says (Ok (record { header = h; list = record { start = s; count = v } })) ≡ list_behind h bytes
    unfolding says list_behind needing
    list_whole e l = let r = list_counted 1 p in rw (e, ← r.told, ← r.moved, le-leb (n + 1 * v) (length bytes) (omega arith))

-- a list that was read is whole
pub list_long :
    (bytes : List ℕ) (l : ListReply)
    → says (Ok l) ≡ list_reply_in bytes
    → behind 1 l.list ≤ length bytes
unfolding says list_reply_in list_behind
list_long bytes l said =
    let (h, _, came) = answered (header_in bytes) (λ x. list_behind x bytes) (sym said) in
    let (whole, same) = held (behind 1 (counted bytes 4)) bytes _ came in
    let place : l.list ≡ counted bytes 4 = cc same in
    rw place whole

-- ---- match

module _ (bytes : List ℕ) where
  -- refused in either form where there are fewer than three bytes
  pub match_short : length bytes < 3 → says (Err Malformed) ≡ match_reply_in bytes
  unfolding says match_reply_in match_reply_in_as mapped list_reply_in and_then header_in size header_widths match_error_widths
  match_short l = go (eqb (number_at 1 bytes 1) SUCCESS)
    where
      go : (b : Bool) → refusal 3 ≡ match_reply_in_as b bytes
      go true = rw (← run_short header_widths bytes _ (omega arith))
      go false = run_short match_error_widths bytes _ (omega arith)

  module _ {u v i j : ℕ} (p : FieldRead 1 bytes 0 u i) (q : FieldRead 1 bytes i v j) where
    status : v ≡ number_at 1 bytes 1
    status = rw p.moved at q.told

    -- with SUCCESS it is the list that was read
    pub match_list_lem :
        (l : ListReply)
        → v ≡ SUCCESS
        → says (Ok l) ≡ list_reply_in bytes
        → says (Ok (Matched l)) ≡ match_reply_in bytes
    unfolding says match_reply_in match_reply_in_as mapped
    match_list_lem l ok said = rw (← status, ok, ← said)

    pub match_cut :
        (r : Result MatchReply Refusal) (why : Refusal)
        → v ≡ SUCCESS
        → says {A = ListReply} (Err why) ≡ list_reply_in bytes
        → IsErr r × IsErrAnd r (λ e. e ≡ why)
        → says r ≡ match_reply_in bytes
    unfolding match_reply_in match_reply_in_as
    match_cut r why ok said handed = rw (← status, ok) (passed_mapped r why said handed Matched)

    -- with another status the first two bytes, and nothing else
    pub match_failed : (v ≡ SUCCESS → ⊥) → 3 ≤ length bytes → says (Ok (Failed (record { seq = u; status = v }))) ≡ match_reply_in bytes
    unfolding says match_reply_in match_reply_in_as match_error_widths
    match_failed other l = rw (← status, ne_eqb _ _ other) (three_parse _ p q (read_byte bytes j) l refl)
