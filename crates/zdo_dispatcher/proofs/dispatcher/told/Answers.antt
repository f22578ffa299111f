-- `told` meets its contract: a length is told with the reply's cluster, and a refusal stays. Assumes nothing.
use native.Mathlib.Omega.{arith}
use Rattle.zdo_dispatcher.proofs.Told.{cluster_fits, told_length, told_refused}
use Rattle.zdo_dispatcher.proofs.dispatcher.told.Goals as goal

pub overflow_add-result : goal.overflow_add-result
overflow_add-result c = cluster_fits _ _ _ (omega arith) c.requires c.in_ok-length.was

pub returns-in_err-length : goal.returns-in_err-length
returns-in_err-length c = told_refused _ _ _ _ c.in_err-length.was c.from_residual.ensures

pub returns : goal.returns
returns c = told_length _ _ c.in_ok-length.was
