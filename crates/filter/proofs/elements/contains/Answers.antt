use Rattle.std.proofs.Common.{sym, ◌∙◌, rules}
use Rattle.std.proofs.lemmas.Iterator.{YieldsList-from_slice}
use Rattle.std.proofs.lemmas.Iterator.Search.{all_from_yields_List}
use Rattle.filter_rules.specs.Filter.{is_set_in}
use Rattle.filter_rules.proofs.Turns.{contains-all}
use Rattle.filter.proofs.elements.contains.Goals as goal

pub returns : goal.returns
returns g c =
    let e = g.E.Element in
    let f = e.values c.args.filter.now in
    let ps = c.args.positions in
    all_from_yields_List (is_set_in e.BITS f) _ _ c.all.result c.all.ensures.ran (YieldsList-from_slice ps (search rules)) (λ x b q k. search rules)
    ∙ sym (contains-all e.BITS f ps)
