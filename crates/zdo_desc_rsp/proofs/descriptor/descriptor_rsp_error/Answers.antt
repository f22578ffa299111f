-- `descriptor_rsp_error` meets its contract: the header is put. Assumes nothing.
use native.Mathlib.Omega.{arith}
use Rattle.zigbee_types.specs.Answers.{says}
use Rattle.zigbee_types.specs.Layout.{size}
use Rattle.zdo_replies.specs.Replies.{header, descriptor_rsp_error}
use Rattle.zdo_desc_rsp.proofs.Written.{error_writes}
use Rattle.zdo_desc_rsp.proofs.descriptor.descriptor_rsp_error.Goals as goal

pub returns : goal.returns
unfolding says size header descriptor_rsp_error
returns c = rw (← c.code.ensures) (error_writes _ _ _ c.write_header-at.ensures (omega arith))
