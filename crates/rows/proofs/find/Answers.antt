-- `find` meets its contract. Assumes nothing.
use mathlib.Core.Path.{sym, ◌∙◌}
use borrow.Author.Tests.{eqb-true, eqb-false}
use Rattle.std.proofs.Common.{rules}
use Rattle.rows.proofs.Finding.{find_none, find-unknown, find-known, find-fault}
use Rattle.rows.proofs.find.Goals as goal

pub returns-then-is_empty : goal.returns-then-is_empty
returns-then-is_empty c = find_none _ _ _ c.piece-name.ensures (eqb-true _ _ (sym c.is_empty.ensures ∙ c.if-is_empty.true))

pub returns-in_default : goal.returns-in_default
returns-in_default c =
    find-unknown _ _ _ c.piece-name.ensures (eqb-false _ _ (sym c.is_empty.ensures ∙ c.if-is_empty.false)) (sym c.in_default.is ∙ c.look_up.ensures)

pub returns-in_err-check : goal.returns-in_err-check
returns-in_err-check c =
    let h =
    find-fault _ _ _ c.piece-name.ensures (eqb-false _ _ (sym c.is_empty.ensures ∙ c.if-is_empty.false)) _ (sym c.in-Some.is ∙ c.look_up.ensures)
    _ _ c.piece.ensures c.piece-2.ensures c.in_err-check.field-0.0 (c.in_err-check.ensures c.in-Some.call) in
    search rules

pub returns : goal.returns
returns c =
    find-known _ _ _ c.piece-name.ensures (eqb-false _ _ (sym c.is_empty.ensures ∙ c.if-is_empty.false)) _ (sym c.in-Some.is ∙ c.look_up.ensures)
    _ _ c.piece.ensures c.piece-2.ensures (c.in_ok-check.ensures c.in-Some.call)
