-- `PowerDescriptorConfig::write` puts the two bytes, or refuses too short a buffer. Assumes nothing.
use native.Mathlib.Omega.{arith}
use borrow.Author.Rules.{rules}
use Rattle.node_power_descriptor.proofs.Frames.{power_full, power_written}
use Rattle.node_power_descriptor.proofs.descriptor.PowerDescriptorConfig.write.Goals as goal

ruleset laws = (rules, power_written)

pub returns-then-out-lt-NODE_POWER_DESCRIPTOR_SIZE : goal.returns-then-out-lt-NODE_POWER_DESCRIPTOR_SIZE
returns-then-out-lt-NODE_POWER_DESCRIPTOR_SIZE c = power_full _ _ (omega arith)

pub returns : goal.returns
returns c = search laws
