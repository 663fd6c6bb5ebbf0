use mathlib.Core.Path.{sym, ap, ◌∙◌}
use Rattle.std.proofs.lemmas.Result.{err_from_is_err_and}
use Rattle.chain.specs.Chain.{step_refusal}
use Rattle.chain.proofs.Steps.{stopped}
use Rattle.chain.proofs.Walks.{walk-stop, walk-next}
use Rattle.chain.proofs.Refusals.{first-refusal}
use Rattle.chain.proofs.Checks.{end_after, field-after}
use Rattle.chain.proofs.after_mac.Goals as goal

pub returns-then-rest-start : goal.returns-then-rest-start
returns-then-rest-start c = end_after _ _ c.if-rest-start.true

pub loop-next-preserved : goal.loop-next-preserved
loop-next-preserved c = walk-next _ _ _ c.step.ensures _ _ c.in-Found.is ∙ c.loop-next.invariant

-- the last step, made once more, is the one that found no field
pub returns-in_err-refusal : goal.returns-in_err-refusal
returns-in_err-refusal c =
    let p = err_from_is_err_and c.from_residual.result c.from_residual.ensures.1 in
    let same = ap step_refusal (c.step-2.ensures ∙ sym c.step.ensures) in
    let whole = same ∙ walk-stop _ _ _ c.step.ensures (stopped _ c.in_default.not-Found) ∙ c.loop-next.invariant in
    rw (p.1, p.2) (first-refusal _ _ _ (c.in_err-refusal.ensures ∙ whole))

pub returns : goal.returns
returns c =
    let same = ap step_refusal (c.step-2.ensures ∙ sym c.step.ensures) in
    let whole = same ∙ walk-stop _ _ _ c.step.ensures (stopped _ c.in_default.not-Found) ∙ c.loop-next.invariant in
    field-after _ _ c.if-rest-start.false (sym (c.in_ok-refusal.ensures ∙ whole))
