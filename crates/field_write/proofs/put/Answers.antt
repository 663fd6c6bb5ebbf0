-- `put` meets its contract: a field that is not too long, and for which there is room, is written. Assumes nothing.
use native.Mathlib.Omega.{arith}
use Rattle.octets.proofs.Parts.{room}
use Rattle.field_write.proofs.Writing.{put_whole}
use Rattle.field_write.proofs.put.Goals as goal

pub returns : goal.returns
returns c =
    let a = c.args in
    let fits = room _ _ c.has_room.ensures c.if-not-has_room.false in
    put_whole a.kind a.zeros a.at a.source.now a.out.now (omega arith) fits c.put_parts.ensures
