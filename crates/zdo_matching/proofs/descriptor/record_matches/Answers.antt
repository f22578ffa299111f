-- `record_matches` meets its contract, at each of its ways out. Assumes nothing.
use borrow.Author.Rules.{rules}
use Rattle.zdo_matching.proofs.Matches.{inputs_within, outputs_within, other_profile, by_input, by_output}
use Rattle.zdo_matching.proofs.descriptor.record_matches.Goals as goal

ruleset laws = (rules, inputs_within, outputs_within, other_profile, by_input, by_output)

pub returns-then-not-profile_matches : goal.returns-then-not-profile_matches
returns-then-not-profile_matches c = search laws

pub shares-requires : goal.shares-requires
shares-requires c = search laws

pub returns-then-shares : goal.returns-then-shares
returns-then-shares c = search laws

pub shares-requires-2 : goal.shares-requires-2
shares-requires-2 c = search laws

pub returns : goal.returns
returns c = search laws
