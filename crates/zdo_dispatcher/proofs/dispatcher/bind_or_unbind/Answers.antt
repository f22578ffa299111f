-- `bind_or_unbind` meets its contract, for a bind and for an unbind. Assumes nothing.
use borrow.Author.Rules.{rules}
use Rattle.zdo_dispatcher.proofs.Links.{links_bind, links_unbind}
use Rattle.zdo_dispatcher.proofs.dispatcher.bind_or_unbind.Goals as goal

ruleset laws = (rules, links_bind, links_unbind)

pub returns-in-Bind : goal.returns-in-Bind
returns-in-Bind c = search laws

pub returns-in-Unbind : goal.returns-in-Unbind
returns-in-Unbind c = search laws
