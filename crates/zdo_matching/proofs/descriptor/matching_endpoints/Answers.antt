-- `matching_endpoints` meets its contract, at each of its ways out. Assumes nothing.
use borrow.Author.Rules.{rules}
use Rattle.zdo_matching.proofs.Found.{refused_tables, refused_places, found_matched}
use Rattle.zdo_matching.proofs.descriptor.matching_endpoints.Goals as goal

ruleset laws = (rules, refused_tables, refused_places, found_matched)

pub returns-in_default : goal.returns-in_default
returns-in_default c = let bad = c.in_default.ensures.found in search laws

pub returns-in_default-checked : goal.returns-in_default-checked
returns-in_default-checked c = let found = c.in-Some.ensures.found in let bad = c.in_default-checked.ensures.found in search laws

pub returns : goal.returns
returns c =
    let found = c.in-Some.ensures.found in
    let same = c.in-Some.ensures.same in
    let places = c.in-Some-checked.ensures.found in
    let asked = c.in-Some-checked.ensures.same in
    search laws
