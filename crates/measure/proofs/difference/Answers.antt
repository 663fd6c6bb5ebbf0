-- `measure::difference` meets its contract: what is left of a when b is taken, read with its sign. Assumes nothing.
use Rattle.std.proofs.Common.{sym, ap, ◌∙◌, arith, Some}
use Rattle.measure.proofs.Reading.{machine-reading, read_back}
use Rattle.measure.proofs.Eras.{at-half, at_other, difference-wraps}
use Rattle.measure.proofs.difference.Goals as goal

pub returns-then-gap : goal.returns-then-gap
returns-then-gap c =
    sym (difference-wraps c.args.a c.args.b (omega arith) (omega arith) ∙ at-half _ c.if-gap.true)

pub returns : goal.returns
returns c =
    let gap = c.cast_signed in
    ap Some (read_back gap.result gap.type_inv ∙ gap.ensures ∙ machine-reading _ (omega arith))
    ∙ sym (difference-wraps c.args.a c.args.b (omega arith) (omega arith) ∙ at_other _ c.if-gap.false)
