-- `store` meets its contract: the numbers stand in a row. Assumes nothing.
use lib.Seq.{sets-eq}
use Rattle.association.specs.Record.{head_numbers}
use Rattle.association.proofs.head.store.Goals as goal

pub returns : goal.returns
unfolding head_numbers
returns c = sets-eq (head_numbers c.args.h) c.args.numbers.now 0 c.requires
