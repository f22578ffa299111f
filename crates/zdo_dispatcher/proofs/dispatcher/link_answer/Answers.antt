-- `link_answer` meets its contract: the table makes a step, and its status is told. Assumes nothing.
use borrow.Author.Rules.{rules}
use Rattle.zdo_dispatcher.proofs.Links.{link_made}
use Rattle.zdo_dispatcher.proofs.dispatcher.link_answer.Goals as goal

ruleset laws = (rules, link_made)

pub returns : goal.returns
returns c = search laws
