-- `read_device` meets its contract: eight bytes are read, and one behind them. Assumes nothing.
use native.Mathlib.Omega.{arith}
use borrow.Author.Rules.{rules}
use Rattle.zdo_bind_req.proofs.Parsed.{device_short, device_read}
use Rattle.zdo_bind_req.proofs.descriptor.read_device.Goals as goal

ruleset laws = (rules, device_read)

pub returns-then-asdu-at : goal.returns-then-asdu-at
returns-then-asdu-at c = device_short _ _ (omega arith)

pub returns : goal.returns
returns c = search laws
