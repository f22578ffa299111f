-- `match_record` meets its contract, at each of its ways out. Assumes nothing.
use borrow.Author.Rules.{rules}
use Rattle.zdo_matching.proofs.Found.{may_fit, record_skip, record_full, record_more}
use Rattle.zdo_matching.proofs.descriptor.match_record.Goals as goal

ruleset laws = (rules, may_fit, record_skip, record_full, record_more)

pub invariant_of-record_matches : goal.invariant_of-record_matches
invariant_of-record_matches c = record { fits = search laws }

pub returns-then-not-record_matches : goal.returns-then-not-record_matches
returns-then-not-record_matches c = search laws

pub returns : goal.returns
returns c = search laws

pub returns-then-written-out : goal.returns-then-written-out
returns-then-written-out c = search laws
