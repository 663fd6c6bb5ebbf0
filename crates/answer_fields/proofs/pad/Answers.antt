-- `pad` meets its contract: one field is written where something is left. Assumes nothing.
use Rattle.answer_fields.proofs.Writing.{padding_written}
use Rattle.answer_fields.proofs.pad.Goals as goal

pub returns-then-at-n : goal.returns-then-at-n
returns-then-at-n c =
    padding_written c.args.out.now c.args.at c.if-at-n.true c.requires.1 c.requires.2 c.put.ensures
