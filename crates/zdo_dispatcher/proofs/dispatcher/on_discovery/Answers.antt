-- `on_discovery` meets its contract: what was replied is told. Assumes nothing.
use borrow.Author.Rules.{rules}
use Rattle.zdo_dispatcher.proofs.Requests.{low_cluster, discovery_told}
use Rattle.zdo_dispatcher.proofs.dispatcher.on_discovery.Goals as goal

ruleset laws = (rules, low_cluster, discovery_told)

pub told-requires : goal.told-requires
told-requires c = search laws

pub returns : goal.returns
returns c = search laws
