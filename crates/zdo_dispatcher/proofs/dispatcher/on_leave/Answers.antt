-- `on_leave` meets its contract: a request is read, or none. Assumes nothing.
use Rattle.zdo_dispatcher.proofs.Requests.{leave_read, leave_unread}
use Rattle.zdo_dispatcher.proofs.dispatcher.on_leave.Goals as goal

pub returns-in_err-request : goal.returns-in_err-request
returns-in_err-request c = leave_unread _ _ _ c.in_err-request.ensures c.from_residual.ensures

pub returns : goal.returns
returns c = leave_read _ _ c.in_ok-request.ensures
