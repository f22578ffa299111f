-- `matching_endpoints_lent` meets its contract. Assumes nothing.
use Rattle.std.proofs.Common.{rules}
use Rattle.zdo_matching.proofs.Found.{found_may, found_next}
use Rattle.zdo_lent_records.proofs.Finding.{run_bad, run_past, run_first, run_found}
use Rattle.zdo_lent_records.proofs.descriptor.matching_endpoints_lent.Goals as goal

ruleset laws = (rules, found_may, found_next, run_bad, run_past, run_first, run_found)

pub returns-then-not-good_records : goal.returns-then-not-good_records
returns-then-not-good_records c = search laws

pub returns-in_default : goal.returns-in_default
returns-in_default c = let bad = c.in_default.ensures.found in search laws

pub loop-ep-init : goal.loop-ep-init
loop-ep-init c = search laws

pub match_record-matched-requires : goal.match_record-matched-requires
match_record-matched-requires c = search laws

pub loop-ep-preserved : goal.loop-ep-preserved
loop-ep-preserved c = search laws

pub returns : goal.returns
returns c = let found = c.in-Some.ensures.found in let same = c.in-Some.ensures.same in search laws
