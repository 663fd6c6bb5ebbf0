-- `union`: the elements from i on are left to unite.
use Rattle.std.proofs.Common.{◌≡◌, length, min}
use Rattle.filter_rules.specs.Filter.{union}
use Rattle.filter_rules.proofs.Turns.{union_from}
use Rattle.filter.proofs.elements.union.Given as goal

abbrev pub invariant-loop-i : goal.invariant-loop-i
invariant-loop-i g l =
    let e = g.E.Element in
    (l.end ≡ min (length l.into) (length l.other)) × (union_from l.i (e.values l.into) (e.values l.other) ≡ union (e.values l.initial.into) (e.values l.other))
