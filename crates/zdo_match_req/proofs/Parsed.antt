-- A match request: the fields in front, then two lists. Assumes nothing.
use Rattle.std.specs.Prelude.{Result, Ok, Err}
use Rattle.std.specs.Result.{IsErr, IsErrAnd}
use Prim.Native.Nat.{ℕ, ◌<◌}
use native.Mathlib.Omega.{arith}
use mathlib.Core.Path.{◌≡◌}
use mathlib.Core.List.{List, [], ◌∷◌}
use lib.ListN.{length}
use Rattle.zigbee_types.specs.Outcome.{mapped}
use Rattle.zigbee_types.specs.Bytes.{FieldRead}
use Rattle.zigbee_types.specs.Layout.{lists_in}
use Rattle.zigbee_types.specs.Addresses.{short_of}
use Rattle.zigbee_types.specs.Answers.{says}
use Rattle.zigbee_types.specs.declared.Refusal.{Refusal}
use Rattle.zigbee_types.specs.declared.Refusal.TheVariants.{Malformed}
use Rattle.zigbee_types.specs.declared.ClusterLists.{ClusterLists}
use Rattle.zigbee_types.proofs.Counted.{lists_none}
use Rattle.zigbee_types.proofs.Passed.{passed_mapped}
use Rattle.zigbee_types.proofs.Runs.{RunRead, run_read_none, run_read_more}
use Rattle.zdo_requests.specs.Requests.{match_widths, match_req_of, match_desc_req_in}
use Rattle.zdo_requests.specs.declared.descriptor.MatchDescReq.{MatchDescReq}

-- too few bytes
pub match_short : (bytes : List ℕ) → length bytes < 5 → says (Err Malformed) ≡ match_desc_req_in bytes
unfolding says match_desc_req_in mapped
match_short bytes h = rw (← lists_none bytes 5 (omega arith))

-- the fields in front, and what the reader of the lists behind them said
module _
    {bytes : List ℕ} {u v w i j k : ℕ}
    (p : FieldRead 1 bytes 0 u i)
    (q : FieldRead 2 bytes i v j)
    (r : FieldRead 2 bytes j w k) where
  there : k ≡ 5
  there = omega (arith, p.moved, q.moved, r.moved)

  pub match_read_lem :
      (found : ClusterLists)
      → says (Ok found) ≡ lists_in bytes k
      → says
      (Ok
      (record {
        seq = u;
        nwk_addr_of_interest = short_of v;
        profile_id = w;
        input_clusters = found.input_clusters;
        output_clusters = found.output_clusters;
      }))
      ≡ match_desc_req_in bytes
  unfolding says match_desc_req_in match_widths match_req_of mapped
  match_read_lem found said =
      let run : RunRead match_widths bytes 0 (u ∷ v ∷ w ∷ []) = run_read_more p (run_read_more q (run_read_more r run_read_none)) in
      rw (← (rw there at said), ← run.told)

  pub match_refused :
      (why : Refusal) (refused : Result MatchDescReq Refusal)
      → says {A = ClusterLists} (Err why) ≡ lists_in bytes k
      → IsErr refused × IsErrAnd refused (λ e. e ≡ why)
      → says refused ≡ match_desc_req_in bytes
  unfolding match_desc_req_in
  match_refused why refused said handed = passed_mapped refused why (rw there at said) handed _
