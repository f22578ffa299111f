-- `BindReq::binding` meets its contract, for each destination. Assumes nothing.
use borrow.Author.Rules.{rules}
use Rattle.zdo_requests.proofs.Named.{to_group, to_device}
use Rattle.zdo_requests.proofs.descriptor.BindReq.binding.Goals as goal

ruleset laws = (rules, to_group, to_device)

pub returns-in-Group : goal.returns-in-Group
returns-in-Group c = search laws

pub returns-in-Device : goal.returns-in-Device
returns-in-Device c = search laws
