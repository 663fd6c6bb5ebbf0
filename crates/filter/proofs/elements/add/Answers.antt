use Rattle.std.proofs.Common.{sym, ap, ◌∙◌, ◌+◌, drop, rules}
use Rattle.filter_rules.specs.Filter.{add_all_in}
use Rattle.filter_rules.proofs.Turns.{add_step, add-end}
use Rattle.filter.proofs.elements.add.Goals as goal

pub loop-p-preserved : goal.loop-p-preserved
loop-p-preserved g c =
    let e = g.E.Element in
    let ps = c.args.positions in
    ap (λ f. add_all_in e.BITS f (drop (c.loop-p.p-index + 1) ps)) c.set.ensures
    ∙ sym (add_step e.BITS (e.values c.loop-p.filter) ps c.loop-p.p-index (search rules))
    ∙ c.loop-p.invariant

pub returns : goal.returns
returns g c =
    let e = g.E.Element in
    sym (add-end e.BITS (e.values c.loop-p.filter) c.args.positions c.loop-p.p-index (search rules)) ∙ c.loop-p.invariant
