use mathlib.Core.Path.{◌∙◌}
use Rattle.chain.proofs.Steps.{stopped}
use Rattle.chain.proofs.Fields.{first_absent, first-here, first-later}
use Rattle.chain.proofs.find.first.Goals as goal

pub returns-then-field-kind : goal.returns-then-field-kind
returns-then-field-kind c =
    first-here _ _ _ c.step.ensures _ _ _ c.in-Found.is c.if-field-kind.true ∙ c.loop-field.invariant

pub loop-field-preserved : goal.loop-field-preserved
loop-field-preserved c =
    first-later _ _ _ c.step.ensures _ _ _ c.in-Found.is c.if-field-kind.false ∙ c.loop-field.invariant

pub returns : goal.returns
returns c = first_absent _ _ _ c.step.ensures _ (stopped _ c.in_default.not-Found) ∙ c.loop-field.invariant
