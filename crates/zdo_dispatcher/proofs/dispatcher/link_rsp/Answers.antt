-- `link_rsp` meets its contract, for each status. Assumes nothing.
use borrow.Author.Rules.{rules}
use Rattle.zdo_dispatcher.proofs.Links.{tells_success, tells_none, tells_full, tells_refused}
use Rattle.zdo_dispatcher.proofs.dispatcher.link_rsp.Goals as goal

ruleset laws = (rules, tells_success, tells_none, tells_full, tells_refused)

pub returns-in-Ok : goal.returns-in-Ok
returns-in-Ok c = search laws

pub returns-in-InvalidBinding : goal.returns-in-InvalidBinding
returns-in-InvalidBinding c = search laws

pub returns-in-TableFull : goal.returns-in-TableFull
returns-in-TableFull c = search laws

pub returns-in-Refused : goal.returns-in-Refused
returns-in-Refused c = search laws
