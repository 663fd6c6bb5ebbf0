-- `write` of 4 octets meets its contract. Assumes nothing.
use mathlib.Core.Path.{sym, ◌∙◌}
use native.Mathlib.Omega.{arith}
use Rattle.octets.proofs.Bytes.{stored}
use Rattle.octets.proofs.Parts.{room, overwritten}
use Rattle.octets.proofs.number.U32Number.write.Goals as goal

pub returns-then-has_room : goal.returns-then-has_room
returns-then-has_room c =
    stored _ _ 4 _ _ _ (c.copy_from_slice.ensures.after ∙ c.to_be_bytes.ensures) (omega arith)
    ∙ sym (overwritten _ _ _ 4 (room _ _ c.has_room.ensures c.if-has_room.true))
