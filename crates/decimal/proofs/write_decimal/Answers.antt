-- `write_decimal` meets its contract: too short a buffer is refused, and otherwise the digits are put. Assumes nothing.
use native.Mathlib.Omega.{arith}
use Rattle.zigbee_types.specs.Answers.{says}
use Rattle.zigbee_types.proofs.Outcomes.{wrote_stored, wrote_full}
use Rattle.decimal.proofs.write_decimal.Goals as goal

pub returns-then-out-digit_count : goal.returns-then-out-digit_count
unfolding says
returns-then-out-digit_count c = wrote_full _ _ (omega arith)

pub returns : goal.returns
unfolding says
returns c = let put = c.put_decimal.ensures in wrote_stored _ put.0 put.1 (omega arith)
