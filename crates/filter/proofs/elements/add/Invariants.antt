-- `add`: the positions from p's on are left to add.
use Rattle.std.proofs.Common.{◌≡◌, drop}
use Rattle.filter_rules.specs.Filter.{add_all_in}
use Rattle.filter.proofs.elements.add.Given as goal

abbrev pub invariant-loop-p : goal.invariant-loop-p
invariant-loop-p g l =
    let e = g.E.Element in
    add_all_in e.BITS (e.values l.filter) (drop l.p-index l.p-items) ≡ add_all_in e.BITS (e.values l.initial.filter) l.fn.positions
