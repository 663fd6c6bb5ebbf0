-- `write` meets its contract: the answers and the padding stand one after the other, or nothing is written. Assumes nothing.
use native.Mathlib.Omega.{arith}
use Rattle.answer_fields.proofs.Filling.{right_sizes, length-answered, left-fours, filled}
use Rattle.answer_fields.proofs.write.Goals as goal

pub answers_in-at-requires : goal.answers_in-at-requires
answers_in-at-requires c = (right_sizes _ _ _ _ c.if-given-n.false).sizes

pub pad-requires : goal.pad-requires
pad-requires c =
    let g = c.args.given in
    let wrong = c.if-given-n.false in
    let z = right_sizes g.request.now g.filter.now g.information.now c.args.out.now wrong in
    let e = c.answers_in-at.ensures in
    let most = e.most in
    let l = length-answered g.request.now g.filter.now g.information.now c.args.out.now wrong c.args.edition e in
    (omega arith, omega arith, rw l (left-fours g.request.now g.filter.now g.information.now c.args.out.now wrong c.args.edition e))

pub returns : goal.returns
returns c =
    let g = c.args.given in
    filled g.request.now g.filter.now g.information.now c.args.out.now c.if-given-n.false c.args.edition c.answers_in-at.ensures c.pad.ensures
