-- `create_binding_link` meets its contract, at each of its ends. Assumes nothing.
use borrow.Author.Rules.{rules}
use Rattle.zigbee_types.proofs.Elements.{length_mapped}
use Rattle.aps_binding_table.proofs.Links.{tested_good, create_refused, create_held, create_full, create_added}
use Rattle.aps_binding_table.proofs.binding.create_binding_link.Goals as goal

ruleset laws = (rules, length_mapped, tested_good, create_refused, create_held, create_full, create_added)

pub returns-then-not-good_sizes : goal.returns-then-not-good_sizes
returns-then-not-good_sizes c = search laws

pub returns-then-contains : goal.returns-then-contains
returns-then-contains c = search laws

pub returns-then-count-limit : goal.returns-then-count-limit
returns-then-count-limit c = search laws

pub returns-else-count-limit : goal.returns-else-count-limit
returns-else-count-limit c = search laws
