-- `take` meets its contract, for each cluster. Assumes nothing.
use borrow.Author.Rules.{rules}
use Rattle.zdo_dispatcher.proofs.Taken.{take_linked, take_leave, take_no_leave, take_discovery, take_no_discovery, taken_passed}
use Rattle.zdo_dispatcher.proofs.dispatcher.take.Goals as goal

ruleset laws = (rules, take_linked)

pub returns-in-33 : goal.returns-in-33
returns-in-33 c = let good = c.args.host.tables.good in search laws

pub returns-in-34 : goal.returns-in-34
returns-in-34 c = let good = c.args.host.tables.good in search laws

pub returns-in_ok-response-in-52 : goal.returns-in_ok-response-in-52
returns-in_ok-response-in-52 c = take_leave _ c.args.host.tables.good _ _ _ _ (search rules) c.in_ok-response-in-52.ensures

pub returns-in_err-response-in-52 : goal.returns-in_err-response-in-52
returns-in_err-response-in-52 c = taken_passed _ _ c.from_residual.ensures (take_no_leave _ c.args.host.tables.good _ _ _ _ (search rules) c.in_err-response-in-52.ensures)

pub returns-in_ok-response-in_default : goal.returns-in_ok-response-in_default
returns-in_ok-response-in_default c = take_discovery _ c.args.host.tables.good _ _ _ _ (search rules) c.in_ok-response-in_default.ensures

pub returns-in_err-response-in_default : goal.returns-in_err-response-in_default
returns-in_err-response-in_default c =
    taken_passed _ _
    c.from_residual-in_err-response-in_default.ensures
    (take_no_discovery _ c.args.host.tables.good _ _ _ _ (search rules) c.in_err-response-in_default.ensures)
