-- `append` meets its contract: the bytes are copied behind the place. Assumes nothing.
use native.Mathlib.Omega.{arith}
use Rattle.zdo_match_rsp.proofs.Written.{append_full, append_copied}
use Rattle.zdo_match_rsp.proofs.descriptor.append.Goals as goal

pub returns-then-out-at : goal.returns-then-out-at
returns-then-out-at c = append_full _ _ _ c.requires c.if-out-at.true

pub returns : goal.returns
returns c = append_copied _ _ _ c.requires (omega arith) c.type_inv.bytes (omega arith) c.copy_from_slice.ensures.after
