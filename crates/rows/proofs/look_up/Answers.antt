use mathlib.Core.Path.{◌≡◌, refl, ap, ◌∙◌}
use native.Mathlib.Omega.{arith}
use Rattle.rows.specs.Answers.{some_row}
use Rattle.rows.proofs.Finding.{row_as, row_here, row_next, row-none}
use Rattle.rows.proofs.look_up.Goals as goal

pub returns-then-same : goal.returns-then-same
returns-then-same c =
    let z = row_here _ _ c.loop-k.k _ (omega arith) (rw (← c.piece.ensures, ← c.piece-in-loop-k.ensures, ← c.same.ensures) c.if-same.true) ∙ c.loop-k.invariant in
    row_as _ _ (omega arith) refl ∙ ap some_row z

pub loop-k-preserved : goal.loop-k-preserved
loop-k-preserved c =
    row_next _ _ c.loop-k.k _ _ (omega arith) (rw (← c.piece.ensures, ← c.piece-in-loop-k.ensures, ← c.same.ensures) c.if-same.false) ∙ c.loop-k.invariant

pub returns : goal.returns
returns c =
    let e : 64 ≡ c.loop-k.k = omega arith in
    ap some_row (e ∙ row-none _ _ c.loop-k.k _ (omega arith) ∙ c.loop-k.invariant)
