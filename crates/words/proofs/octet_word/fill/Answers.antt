use Rattle.std.proofs.Common.{sym, ◌∙◌}
use Rattle.words.proofs.Writing.{fill-next, fill_done}
use Rattle.words.proofs.octet_word.fill.Goals as goal

pub loop-left-preserved : goal.loop-left-preserved
loop-left-preserved c =
    let a = c.args in
    fill-next c.loop-left.buffer _ a.from c.loop-left.left a.octet c.loop-left-test.true c.put.ensures ∙ c.loop-left.invariant

pub returns : goal.returns
returns c =
    let a = c.args in
    let l = c.loop-left in
    sym (fill_done l.buffer a.from l.left a.octet c.loop-left-test.false) ∙ l.invariant
