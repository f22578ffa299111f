-- What equals one thing is one: a request is dispatched to one outcome. Assumes nothing.
use mathlib.Core.Path.{sym, ◌∙◌}
use Rattle.zdo_dispatcher.specs.OneDispatched.{OneDispatched}

pub one_dispatched : OneDispatched
one_dispatched o t before r s u v after later p q =
    (p.said ∙ sym q.said, p.table ∙ sym q.table, p.buffer ∙ sym q.buffer)
