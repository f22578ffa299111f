-- `SimpleReply::within` meets its contract: no descriptor, or the one that is read. Assumes nothing.
use native.Mathlib.Omega.{arith}
use mathlib.Core.Path.{refl}
use borrow.Author.Rules.{rules}
use Rattle.zigbee_types.specs.Layout.{behind}
use Rattle.zdo_list_readers.proofs.Within.{within_none, within_read, within_refused, places_fit}
use Rattle.zdo_list_readers.proofs.readers.SimpleReply.within.Goals as goal

ruleset laws = (rules, within_none)

pub returns-then-count-eq0 : goal.returns-then-count-eq0
returns-then-count-eq0 c = search laws

pub overflow_add-start : goal.overflow_add-start
unfolding behind
overflow_add-start c = search laws

pub slice_bounds-try_read-end : goal.slice_bounds-try_read-end
unfolding behind
slice_bounds-try_read-end c = search laws

pub shifted_fields-requires : goal.shifted_fields-requires
unfolding behind
shifted_fields-requires c = places_fit _ _ _ c.in_ok-fields.ensures (search rules) (omega arith)

pub returns-in_err-fields : goal.returns-in_err-fields
returns-in_err-fields c = within_refused _ _ _ (search rules) refl _ _ c.in_err-fields.ensures c.from_residual.ensures

pub returns : goal.returns
returns c = within_read _ _ _ (search rules) refl _ c.in_ok-fields.ensures c.shifted_fields.ensures
