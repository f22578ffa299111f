-- `write_record` meets its contract: it is what the writer is told to write. Assumes nothing.
use borrow.Author.Rules.{rules}
use Rattle.zdo_device_rsp.proofs.Described.{own_written}
use Rattle.zdo_device_rsp.proofs.descriptor.write_record.Goals as goal

ruleset laws = (rules, own_written)

pub returns : goal.returns
returns c = search laws
