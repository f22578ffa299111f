-- `good_tables` meets its contract: the chain tests the records in use. Assumes nothing.
use Rattle.std.proofs.Common.{rules}
use borrow.Author.Tests.{tests}
use Rattle.std.proofs.lemmas.Iterator.{YieldsList-from_slice}
use Rattle.std.proofs.lemmas.Iterator.Search.{all_from_yields_List}
use lib.ListN.{take}
use Rattle.zigbee_types.proofs.Elements.{length_mapped}
use Rattle.zdo_device.specs.Tables.{record_fits}
use Rattle.zdo_device.specs.Checked.{pools_of}
use Rattle.zdo_device.proofs.Records.{sizes_bad, sizes_few, all_checked}
use Rattle.zdo_device.proofs.descriptor.good_tables.Goals as goal

ruleset laws = (rules, length_mapped, sizes_bad, sizes_few)

pub returns-then-not-good_sizes : goal.returns-then-not-good_sizes
returns-then-not-good_sizes c = search laws

pub shared_ref_as_front-iter : goal.shared_ref_as_front-iter
shared_ref_as_front-iter c = search laws

pub returns : goal.returns
returns c =
    let from = YieldsList-from_slice (take c.args.device.now.endpoint_count c.args.device.now.endpoints) cc in
    let all = all_from_yields_List (record_fits (pools_of c.args.lent)) _ _ c.all.result c.all.ensures.ran from (λ x b q k. search (rules, tests)) in
    search (laws, all_checked)
