-- `clear` meets its contract: the whole table is zeroed. Assumes nothing.
use Rattle.client.proofs.Returned.{cleared-not, cleared-all}
use Rattle.client.proofs.clear.Goals as goal

pub returns-then-table-ne-NUMBERS : goal.returns-then-table-ne-NUMBERS
returns-then-table-ne-NUMBERS c = cleared-not _ c.if-table-ne-NUMBERS.true

pub returns : goal.returns
returns c = cleared-all _ _ c.if-table-ne-NUMBERS.false c.zero.ensures
