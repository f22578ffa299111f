-- `dispatch` meets its contract: bad tables, what is answered without the binding table, and what is not. Assumes nothing.
use mathlib.Core.Path.{sym}
use borrow.Author.Rules.{rules}
use Rattle.zigbee_types.proofs.Elements.{length_mapped}
use Rattle.zdo_dispatcher.proofs.Requests.{bad_device, bad_table, table_found}
use Rattle.zdo_dispatcher.proofs.Taken.{taken_from, was_told, was_refused, asks_low, asks_room, was_asked}
use Rattle.zdo_dispatcher.proofs.dispatcher.dispatch.Goals as goal

ruleset laws = (rules, length_mapped, table_found, was_told, was_refused, asks_low, asks_room, was_asked)

pub returns-in_default : goal.returns-in_default
returns-in_default c = bad_device _ _ _ _ _ (sym c.in_default.ensures.found)

pub returns-then-not-good_sizes : goal.returns-then-not-good_sizes
returns-then-not-good_sizes c = bad_table _ _ _ _ _ (sym c.in-Some.ensures.found) (table_found _ c.good_sizes.ensures c.if-not-good_sizes.true)

pub link_answer-requires-clause-table_value : goal.link_answer-requires-clause-table_value
link_answer-requires-clause-table_value c = table_found _ c.good_sizes.ensures c.if-not-good_sizes.false

pub link_answer-requires-clause-cluster_bound : goal.link_answer-requires-clause-cluster_bound
link_answer-requires-clause-cluster_bound c = let was = taken_from _ _ _ _ c.in-Some.ensures.same c.take-read.ensures in search laws

pub link_answer-requires-clause-in_bounds : goal.link_answer-requires-clause-in_bounds
link_answer-requires-clause-in_bounds c = let was = taken_from _ _ _ _ c.in-Some.ensures.same c.take-read.ensures in search laws

pub returns-in-Asks : goal.returns-in-Asks
returns-in-Asks c = let was = taken_from _ _ _ _ c.in-Some.ensures.same c.take-read.ensures in search laws

pub returns : goal.returns
returns c = let was = taken_from _ _ _ _ c.in-Some.ensures.same c.take-read.ensures in search (laws, c.well_formed.1.1.1.1.0)

pub returns-in-Err : goal.returns-in-Err
returns-in-Err c = let was = taken_from _ _ _ _ c.in-Some.ensures.same c.take-read.ensures in search (laws, c.well_formed.1.1.1.1.0)
