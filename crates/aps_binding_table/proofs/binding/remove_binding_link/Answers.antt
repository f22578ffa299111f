-- `remove_binding_link` meets its contract, at each of its ends. Assumes nothing.
use borrow.Author.Rules.{rules}
use Rattle.std.proofs.Common.{◌≡◌, take, tests}
use Rattle.std.proofs.lemmas.Iterator.{YieldsList-from_slice}
use Rattle.std.proofs.lemmas.Iterator.Search.{position_from_yields_List}
use Rattle.std.specs.Prelude.{position}
use Rattle.aps_binding.specs.Entry.{same}
use Rattle.zigbee_types.proofs.Elements.{length_mapped}
use Rattle.aps_binding_table.proofs.Links.{tested_good, remove_refused, remove_none, remove_found}
use Rattle.aps_binding_table.proofs.binding.remove_binding_link.Goals as goal

ruleset laws = (rules, length_mapped, tested_good, remove_refused, remove_none, remove_found)

pub returns-then-not-good_sizes : goal.returns-then-not-good_sizes
returns-then-not-good_sizes c = search laws

pub returns-in-Some : goal.returns-in-Some
returns-in-Some c =
    let found : c.position.result ≡ position (λ x. same x c.args.binding) (take c.args.table.count c.args.table.entries) =
    position_from_yields_List (λ x. same x c.args.binding) _ _ c.position.result c.position.ensures.ran (YieldsList-from_slice _ c.iter.ensures.rest) (λ x b q k. search (rules, tests)) in
    search laws

pub returns-in_default : goal.returns-in_default
returns-in_default c =
    let found : c.position.result ≡ position (λ x. same x c.args.binding) (take c.args.table.count c.args.table.entries) =
    position_from_yields_List (λ x. same x c.args.binding) _ _ c.position.result c.position.ensures.ran (YieldsList-from_slice _ c.iter.ensures.rest) (λ x b q k. search (rules, tests)) in
    search laws
