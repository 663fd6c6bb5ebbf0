-- `mode_at` meets its contract. Assumes nothing.
use mathlib.Core.Path.{sym, ◌∙◌}
use Rattle.changes.proofs.mode_at.Goals as goal

pub returns-then-same : goal.returns-then-same
returns-then-same c =
    sym c.if-same.true ∙ c.same.ensures ∙ rw c.piece.ensures

pub returns-else-same : goal.returns-else-same
returns-else-same c =
    sym c.if-same.false ∙ c.same.ensures ∙ rw c.piece.ensures
