-- `answer` meets its contract: what it gives the responder is the line's. Assumes nothing.
use Rattle.words.proofs.Writing.{octets-at}
use Rattle.actions.proofs.Keeping.{answered-all}
use Rattle.actions.proofs.answering.answer.Goals as goal

pub returns : goal.returns
returns g c =
    answered-all _ _ _ _ _ _ _ c.given_from-given.ensures
    (octets-at _ _ _ 2 c.piece.ensures c.octets_of.ensures)
    (octets-at _ _ _ 16 c.piece-2.ensures c.octets_of-2.ensures)
    (octets-at _ _ _ 17 c.piece-3.ensures c.octets_of-3.ensures)
    c.answer_to.ensures
