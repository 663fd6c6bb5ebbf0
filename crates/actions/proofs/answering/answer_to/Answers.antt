-- `answer_to` meets its contract: the output is the line's. Assumes nothing.
use Rattle.refusal.specs.Refusal.{by_number}
use Rattle.words.proofs.Writing.{octets-at}
use Rattle.actions.proofs.Keeping.{answered}
use Rattle.actions.proofs.answering.answer_to.Goals as goal

pub returns : goal.returns
returns g c =
    answered _ _ _ _ (by_number c.answer_into-answered.result) _ _ (octets-at _ _ _ 18 c.piece.ensures c.octets_of-output.ensures) c.answer_into-answered.ensures
