-- `receive` meets its contract: its values are the line's. Assumes nothing.
use Rattle.words.proofs.Writing.{octets-at}
use Rattle.changes.proofs.Changing.{receive-as, left}
use Rattle.changes.proofs.receive.Goals as goal

pub returns : goal.returns
returns g c =
    left _ _ _ _ _
    (receive-as _ _ _ _
    c.bits_at.ensures
    (octets-at _ _ _ 3 c.piece.ensures c.octets_of-datagram.ensures)
    c.u64_at.ensures)
    c.receive-received.ensures
