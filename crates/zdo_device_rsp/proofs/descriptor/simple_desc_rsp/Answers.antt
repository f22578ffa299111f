-- `simple_desc_rsp` meets its contract: the tables are good, or not. Assumes nothing.
use Rattle.zdo_device_rsp.proofs.Described.{simple_good, simple_bad}
use Rattle.zdo_device_rsp.proofs.descriptor.simple_desc_rsp.Goals as goal

pub returns-in_default : goal.returns-in_default
returns-in_default c = simple_bad _ _ _ _ _ c.checked.ensures.found _ c.in_default.is

pub returns : goal.returns
returns c = simple_good _ _ _ _ _ c.checked.ensures.found c.in-Some.is c.checked.ensures.same c.simple_desc_rsp_checked.ensures
