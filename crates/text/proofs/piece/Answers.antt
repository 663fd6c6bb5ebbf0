use Rattle.std.proofs.Common.{◌∙◌}
use Rattle.text.proofs.Places.{piece-first, piece-next, piece-last}
use Rattle.text.proofs.piece.Goals as goal

pub loop-k-init : goal.loop-k-init
loop-k-init c = piece-first _ _ _ _ c.find-at.ensures

pub loop-k-preserved : goal.loop-k-preserved
loop-k-preserved c =
    let a = c.args in
    piece-next a.text.now a.number a.separator c.loop-k.k c.loop-k.at _ _ c.loop-k-test.true c.find.ensures c.find-at-in-loop-k.ensures ∙ c.loop-k.invariant

pub returns : goal.returns
returns c =
    let a = c.args in
    c.part.ensures ∙ piece-last a.text.now a.number a.separator c.loop-k.k c.loop-k.at _ c.loop-k-test.false c.find-2.ensures ∙ c.loop-k.invariant
