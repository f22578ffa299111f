-- `take_link` meets its contract, at each of its ways out. Assumes nothing.
use native.Mathlib.Omega.{arith}
use borrow.Author.Rules.{rules}
use Rattle.zdo_dispatcher.proofs.Taken.{was_read, take_unread, take_full, take_denied, take_unreplied, take_asks, taken_passed}
use Rattle.zdo_dispatcher.proofs.dispatcher.take_link.Goals as goal

pub returns-in_err-request : goal.returns-in_err-request
returns-in_err-request c = taken_passed _ _ c.from_residual.ensures (take_unread _ _ _ _ _ _ _ c.in_err-request.ensures)

pub returns-then-out-lt2 : goal.returns-then-out-lt2
returns-then-out-lt2 c = take_full _ _ _ _ _ _ (was_read _ c.parse_bind_req.ensures c.in_ok-request.was) (omega arith)

pub returns-in_err-response : goal.returns-in_err-response
returns-in_err-response c =
    taken_passed _ _
    c.from_residual-in_err-response.ensures
    (take_unreplied _ _ _ _ _ _ _ c.in_ok-request.ensures c.source_status-source.ensures c.code.ensures (search rules) c.bind_rsp.ensures c.in_err-response.ensures)

pub returns-then-code-ne-STATUS_SUCCESS : goal.returns-then-code-ne-STATUS_SUCCESS
returns-then-code-ne-STATUS_SUCCESS c =
    take_denied _ _ _ _ _ _ _ c.in_ok-request.ensures c.source_status-source.ensures c.code.ensures (search rules) c.bind_rsp.ensures c.in_ok-response.ensures

pub returns : goal.returns
returns c =
    take_asks _ _ _ _ _ _ _
    c.in_ok-request.ensures
    c.source_status-source.ensures
    c.code.ensures
    c.if-code-ne-STATUS_SUCCESS.false
    (search rules)
    (omega arith)
