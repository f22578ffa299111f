-- What equals one thing is one: characters are taken with one outcome. Assumes nothing.
use mathlib.Core.Path.{sym, ◌∙◌}
use Rattle.lines.specs.OneOutcome.{OneSplit}

pub one_split : OneSplit
one_split s at r q after later p o =
    let found = p.told ∙ sym o.told in
    let count = p.kept ∙ sym o.kept in
    let place = p.moved ∙ sym o.moved in
    (λ i. record { splitter = record { count = count i }; at = place i; found = found i }, p.left ∙ sym o.left)
