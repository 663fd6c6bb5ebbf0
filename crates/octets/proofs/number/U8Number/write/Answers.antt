-- `write` of one octet meets its contract. Assumes nothing.
use mathlib.Core.Path.{sym, ◌∙◌}
use Rattle.octets.proofs.Numbers.{store-one}
use Rattle.octets.proofs.Parts.{room, overwritten}
use Rattle.octets.proofs.number.U8Number.write.Goals as goal

pub returns-then-has_room : goal.returns-then-has_room
returns-then-has_room c =
    let h = room _ _ c.has_room.ensures c.if-has_room.true in
    store-one _ _ _ c.ranges.self.fits h ∙ sym (overwritten _ _ _ 1 h)
