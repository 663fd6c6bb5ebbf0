-- `copy`: the two tests decide which case holds.
use mathlib.Core.Path.{sym, ◌∙◌}
use Rattle.octets.proofs.Parts.{room}
use Rattle.word_rules.proofs.Taking.{paste-words}
use Rattle.octet_words.proofs.copy.Goals as goal

pub copy_all-requires : goal.copy_all-requires
copy_all-requires c = (room _ _ c.has_room-then-has_room.ensures c.if-has_room-2.true, room _ _ c.has_room.ensures c.if-has_room.true)

pub returns-then-has_room-2 : goal.returns-then-has_room-2
returns-then-has_room-2 c =
    let a = c.args in
    let read = room _ _ c.has_room.ensures c.if-has_room.true in
    rw (sym c.has_room.ensures ∙ c.if-has_room.true, sym c.has_room-then-has_room.ensures ∙ c.if-has_room-2.true)
    (c.copy_all.ensures
    ∙ sym (paste-words a.out.now a.source.now (λ j. (c.type_inv.source j).fits) a.to a.from a.n read))

pub returns-else-has_room-2 : goal.returns-else-has_room-2
returns-else-has_room-2 c = rw (sym c.has_room.ensures ∙ c.if-has_room.true, sym c.has_room-then-has_room.ensures ∙ c.if-has_room-2.false)

pub returns-else-has_room : goal.returns-else-has_room
returns-else-has_room c = rw (sym c.has_room.ensures ∙ c.if-has_room.false)
