-- `simple_desc_rsp_checked` meets its contract: a record is found, or none. Assumes nothing.
use borrow.Author.Rules.{rules}
use Rattle.zdo_device.proofs.Records.{good_found}
use Rattle.zdo_device_rsp.proofs.Described.{simple_found, simple_none}
use Rattle.zdo_device_rsp.proofs.descriptor.simple_desc_rsp_checked.Goals as goal

ruleset laws = (rules, good_found, simple_found, simple_none)

pub invariant_of-described_rsp : goal.invariant_of-described_rsp
invariant_of-described_rsp c = record { fits = search laws }

pub returns-in-Some : goal.returns-in-Some
returns-in-Some c = search laws

pub returns-in-None : goal.returns-in-None
returns-in-None c = search laws
