-- `put_parts` meets its contract: its four parts are written one after the other. Assumes nothing.
use Rattle.field_write.proofs.Writing.{parts-written}
use Rattle.field_write.proofs.put_parts.Goals as goal

pub returns : goal.returns
returns c =
    let a = c.args in
    parts-written a.kind a.zeros a.at a.source.now a.out.now (λ j. (c.type_inv.source j).fits) c.requires.1
    c.put.ensures
    c.put-2.ensures
    c.copy.ensures
    c.zero.ensures
