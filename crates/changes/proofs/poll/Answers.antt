-- `poll` meets its contract: its values are the line's. Assumes nothing.
use mathlib.Core.Path.{◌∙◌}
use mir.Syntax.{w8}
use mir.Facts.{to_z-of_z}
use Rattle.words.proofs.Writing.{octets-at}
use Rattle.changes.proofs.Changing.{poll-as, left}
use Rattle.changes.proofs.poll.Goals as goal

pub returns : goal.returns
returns g c =
    left _ _ _ _ _
    (poll-as _ _ _ _ _ _
    c.bits_at.ensures
    c.u64_at.ensures
    (to_z-of_z {w = w8} (record { sfits = c.i8_at.type_inv }) ∙ c.i8_at.ensures)
    c.mode_at.ensures
    (octets-at _ _ _ 5 c.piece.ensures c.octets_of-output.ensures))
    c.poll-polled.ensures
