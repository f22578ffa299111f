-- `find_endpoint` meets its contract: the chain finds the first of the records in use. Assumes nothing.
use Rattle.std.proofs.Common.{rules}
use borrow.Author.Tests.{tests}
use Rattle.std.proofs.lemmas.Iterator.{YieldsList-from_slice}
use Rattle.std.proofs.lemmas.Iterator.Search.{find_from_yields_List}
use mathlib.Core.Path.{◌∙◌}
use lib.Dec.{eqb}
use lib.ListN.{take}
use mathlib.Core.Bool.{Bool}
use Rattle.zdo_device.specs.declared.descriptor.EndpointDescriptor.{EndpointDescriptor}
use Rattle.zigbee_types.proofs.Elements.{length_mapped}
use Rattle.zdo_device.proofs.Records.{sought}
use Rattle.zdo_device.proofs.descriptor.find_endpoint.Goals as goal

pub returns : goal.returns
returns c =
    let has : EndpointDescriptor → Bool = λ e. eqb e.endpoint c.args.endpoint in
    let from = YieldsList-from_slice (take c.min-count.result c.args.device.now.endpoints) cc in
    let found = c.copied.ensures ∙ find_from_yields_List has _ _ c.find.result c.find.ensures.ran from (λ x b q k. search (rules, tests)) in
    search (rules, length_mapped, sought)
