-- `on_active` meets its contract, at each of its ways out. Assumes nothing.
use borrow.Author.Rules.{rules}
use Rattle.zdo_discovery.specs.Discovery.{on_active}
use Rattle.zigbee_types.proofs.Passed.{went_on, passed_wrote}
use Rattle.zdo_device.proofs.Records.{good_count}
use Rattle.zdo_discovery.proofs.Handled.{about_ours, about_other, active_counted}
use Rattle.zdo_discovery.proofs.discovery.on_active.Goals as goal

ruleset laws = (rules, about_ours, about_other, active_counted, good_count)

pub returns-then-eq : goal.returns-then-eq
unfolding on_active
returns-then-eq c = went_on _ _ _ _ c.in_ok-request.ensures (let few = good_count _ _ c.args.tables.good in search (laws, c.if-eq.ensures))

pub returns : goal.returns
unfolding on_active
returns c = went_on _ _ _ _ c.in_ok-request.ensures (let few = good_count _ _ c.args.tables.good in search (laws, c.if-eq.ensures))

pub returns-in_err-request : goal.returns-in_err-request
returns-in_err-request c = passed_wrote _ _ _ _ c.in_err-request.ensures c.from_residual.ensures
