use Rattle.std.proofs.Common.{sym, ◌∙◌, arith, length-set}
use Rattle.filter_rules.proofs.Turns.{union-end}
use Rattle.filter.proofs.Turn.{turn}
use Rattle.filter.proofs.elements.union.Goals as goal

pub loop-i-preserved : goal.loop-i-preserved
loop-i-preserved g c =
    let n = g.met.E.Element.as_numbers in (
      simp length-set c.loop-i.invariant.0,
      turn n c.loop-i.into c.args.other.now c.loop-i.i _ _ _ (omega arith) c.index-into-i.is c.index-other-i.is c.or.ensures
          ∙ c.loop-i.invariant.1,
    )

pub returns : goal.returns
returns g c =
    let e = g.E.Element in
    let n = g.met.E.Element.as_numbers in
    sym (union-end (e.values c.loop-i.into) (e.values c.args.other.now) c.loop-i.i (simp (n.length_same) (omega arith))) ∙ c.loop-i.invariant.1
