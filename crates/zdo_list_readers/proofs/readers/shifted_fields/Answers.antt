-- `shifted_fields` meets its contract: each list is moved. Assumes nothing.
use borrow.Author.Rules.{rules}
use Rattle.zdo_list_readers.proofs.Within.{moved_both}
use Rattle.zdo_list_readers.proofs.readers.shifted_fields.Goals as goal

ruleset laws = (rules, moved_both)

pub returns : goal.returns
returns c = search laws
