-- `publish` meets its contract: the tests say which answer it is. Assumes nothing.
use mathlib.Core.Path.{refl, ap, ◌∙◌}
use mathlib.Core.List.{List}
use Prim.Native.Nat.{ℕ}
use borrow.Author.Tests.{eqb-false}
use Rattle.std.proofs.lemmas.Result.{err_from_is_err_and}
use Rattle.state.proofs.Changes.{refusal-number}
use Rattle.client_rules.specs.Call.{Answer, written_answer}
use Rattle.client.proofs.Returned.{publish-size, publish-id, publish-selection, publish-short, publish-written}
use Rattle.client.proofs.publish.Goals as goal

pub returns-then-table-ne-NUMBERS : goal.returns-then-table-ne-NUMBERS
returns-then-table-ne-NUMBERS c =
    let a = c.args in
    ap (λ (w : Answer). (w, a.table.now)) (publish-size a.selected a.id.now a.out.now a.table.now c.if-table-ne-NUMBERS.true)

pub returns-then-id-ne15 : goal.returns-then-id-ne15
returns-then-id-ne15 c =
    let a = c.args in
    ap (λ (w : Answer). (w, a.table.now)) (publish-id a.selected a.id.now a.out.now a.table.now c.if-table-ne-NUMBERS.false c.if-id-ne15.true)

pub returns-in_err-check : goal.returns-in_err-check
returns-in_err-check c =
    let a = c.args in
    let p = err_from_is_err_and c.from_residual.result c.from_residual.ensures.1 in
    rw (p.1, p.2)
    (ap (λ (w : Answer). (w, a.table.now))
    (publish-selection a.selected a.id.now a.out.now a.table.now c.if-table-ne-NUMBERS.false c.if-id-ne15.false _ c.in_err-check.ensures (eqb-false _ _ (refusal-number c.in_err-check.field-0.0))))

pub returns-then-out-lt512 : goal.returns-then-out-lt512
returns-then-out-lt512 c =
    let a = c.args in
    ap (λ (w : Answer). (w, a.table.now))
    (publish-short a.selected a.id.now a.out.now a.table.now c.if-table-ne-NUMBERS.false c.if-id-ne15.false _ c.in_ok-check.ensures refl c.if-out-lt512.true)

pub returns : goal.returns
returns c =
    let a = c.args in
    ap (λ (w : List ℕ). (written_answer 512 w, a.table.now)) c.write.ensures
    ∙ ap (λ (w : Answer). (w, a.table.now))
    (publish-written a.selected a.id.now a.out.now a.table.now c.if-table-ne-NUMBERS.false c.if-id-ne15.false _ c.in_ok-check.ensures refl c.if-out-lt512.false)
