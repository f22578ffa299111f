-- What equals one thing is one: a turn has one outcome. Assumes nothing.
use mathlib.Core.Path.{◌≡◌, sym, ◌∙◌}
use Rattle.zigbee_types.proofs.OneOutcome.{one_wrote}
use Rattle.answer_lines.specs.OneOutcome.{OneTurn}

pub one_turn : OneTurn
one_turn taken t at before r s line other after later a b =
    let (told, written) = one_wrote _ before _ _ after later a.wrote b.wrote in
    let length : r.length ≡ s.length = cc in
    let table = a.table ∙ sym b.table in
    let count = a.kept ∙ sym b.kept in
    let at = a.moved ∙ sym b.moved in (
      λ i. record { session = record { table = table i; splitter = record { count = count i } }; at = at i; length = length i },
      a.left ∙ sym b.left,
      written,
    )
