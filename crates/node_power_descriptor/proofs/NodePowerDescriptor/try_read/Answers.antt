-- `NodePowerDescriptor::try_read` reads what the definition reads, and refuses what it refuses. Assumes nothing.
use native.Mathlib.Omega.{arith}
use borrow.Author.Rules.{rules}
use Rattle.node_power_descriptor.proofs.Frames.{power_short, power_refused, power_read_lem}
use Rattle.node_power_descriptor.proofs.NodePowerDescriptor.try_read.Goals as goal

ruleset laws = (rules, power_refused, power_read_lem)

pub returns-then-bytes-lt-NODE_POWER_DESCRIPTOR_SIZE : goal.returns-then-bytes-lt-NODE_POWER_DESCRIPTOR_SIZE
returns-then-bytes-lt-NODE_POWER_DESCRIPTOR_SIZE c = power_short _ (omega arith)

pub returns-then-not-is_usable : goal.returns-then-not-is_usable
returns-then-not-is_usable c = search laws

pub returns : goal.returns
returns c = search laws
