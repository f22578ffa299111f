-- `shifted` meets its contract. Assumes nothing.
use borrow.Author.Rules.{rules}
use Rattle.zdo_list_readers.specs.ListReaders.{shifted}
use Rattle.zdo_list_readers.proofs.readers.shifted.Goals as goal

pub returns : goal.returns
unfolding shifted
returns c = search rules
