-- `lend` meets its contract: the octets are the line's. Assumes nothing.
use Rattle.words.proofs.Writing.{octets-at}
use Rattle.actions.proofs.Keeping.{lent}
use Rattle.actions.proofs.lend.Goals as goal

pub returns : goal.returns
returns g c =
    lent _ _ _ _ _ (octets-at _ _ _ 1 c.piece.ensures c.octets_of-octets.ensures) c.put.ensures c.copy.ensures
