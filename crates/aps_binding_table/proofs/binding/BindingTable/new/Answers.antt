-- `BindingTable::new` meets its contract: its places are those of the empty table. Assumes nothing.
use Rattle.aps_binding.specs.Entry.{zero_binding}
use Rattle.aps_binding_table.specs.Table.{empty_table}
use Rattle.aps_binding_table.proofs.binding.BindingTable.new.Goals as goal

pub returns : goal.returns
unfolding empty_table zero_binding
returns c = rw c.group-unused.ensures
