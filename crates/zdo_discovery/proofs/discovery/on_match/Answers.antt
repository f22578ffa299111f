-- `on_match` meets its contract, at each of its ways out. Assumes nothing.
use borrow.Author.Rules.{rules}
use Rattle.zdo_discovery.specs.Discovery.{on_match}
use Rattle.zigbee_types.proofs.Passed.{went_on, passed_wrote}
use Rattle.zdo_discovery.proofs.Handled.{about_ours, about_other}
use Rattle.zdo_discovery.proofs.Places.{match_places}
use Rattle.zdo_discovery.proofs.discovery.on_match.Goals as goal

ruleset laws = (rules, match_places, about_ours, about_other)

pub invariant_of-matched_rsp : goal.invariant_of-matched_rsp
invariant_of-matched_rsp c = search laws

pub returns-then-eq : goal.returns-then-eq
unfolding on_match
returns-then-eq c = went_on _ _ _ _ c.in_ok-request.ensures (search (laws, c.if-eq.ensures))

pub returns : goal.returns
unfolding on_match
returns c = went_on _ _ _ _ c.in_ok-request.ensures (search (laws, c.if-eq.ensures))

pub returns-in_err-request : goal.returns-in_err-request
returns-in_err-request c = passed_wrote _ _ _ _ c.in_err-request.ensures c.from_residual.ensures
