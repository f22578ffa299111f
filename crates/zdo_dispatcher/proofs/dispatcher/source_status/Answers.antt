-- `source_status` meets its contract, at each of its ways out. Assumes nothing.
use borrow.Author.Rules.{rules}
use Rattle.zdo_dispatcher.proofs.Links.{other_address, other_endpoint, source_ours}
use Rattle.zdo_dispatcher.proofs.dispatcher.source_status.Goals as goal

ruleset laws = (rules, other_address, other_endpoint, source_ours)

pub returns-then-ne : goal.returns-then-ne
returns-then-ne c = search laws

pub returns-then-not-supports_endpoint : goal.returns-then-not-supports_endpoint
returns-then-not-supports_endpoint c = search laws

pub returns : goal.returns
returns c = search laws
