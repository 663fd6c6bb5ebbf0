-- `in_range` meets its contract: the tests say which state it is. Assumes nothing.
use borrow.Author.Tests.{eq-eqb, ne_eqb}
use Rattle.state.specs.Range.{in_range}
use Rattle.state.proofs.range.in_range.Goals as goal

pub returns-then-h-eq0 : goal.returns-then-h-eq0
unfolding in_range
returns-then-h-eq0 c = rw (eq-eqb _ _ c.if-h-eq0.true) c.closed_in_range.ensures

pub returns-then-is_edition : goal.returns-then-is_edition
unfolding in_range
returns-then-is_edition c = rw (ne_eqb _ _ c.if-h-eq0.false, ← c.is_edition.ensures, c.if-is_edition.true) c.open_in_range.ensures

pub returns-else-is_edition : goal.returns-else-is_edition
unfolding in_range
returns-else-is_edition c = rw (ne_eqb _ _ c.if-h-eq0.false, ← c.is_edition.ensures, c.if-is_edition.false)
