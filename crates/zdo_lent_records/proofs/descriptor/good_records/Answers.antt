-- `good_records` meets its contract: the chain tests each record. Assumes nothing.
use Rattle.std.proofs.Common.{rules}
use borrow.Author.Tests.{tests}
use Rattle.std.proofs.lemmas.Iterator.{YieldsList-from_slice}
use Rattle.std.proofs.lemmas.Iterator.Search.{all_from_yields_List}
use Rattle.zdo_device.specs.Tables.{record_fits}
use Rattle.zdo_device.specs.Checked.{pools_of}
use Rattle.zdo_lent_records.proofs.Checking.{records_many, records_checked}
use Rattle.zdo_lent_records.proofs.descriptor.good_records.Goals as goal

pub returns-then-not-good_sizes : goal.returns-then-not-good_sizes
returns-then-not-good_sizes c = search (rules, records_many)

pub returns : goal.returns
returns c =
    let from = YieldsList-from_slice c.args.endpoints.now cc in
    let all = all_from_yields_List (record_fits (pools_of c.args.lent)) _ _ c.all.result c.all.ensures.ran from (λ x b q k. search (rules, tests)) in
    search (rules, records_checked)
