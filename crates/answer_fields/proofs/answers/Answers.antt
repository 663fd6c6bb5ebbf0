use mathlib.Core.Path.{sym, ◌∙◌, subst⁻¹}
use Rattle.chain.proofs.Steps.{stopped}
use Rattle.field_role.specs.Role.{SizeAllowed}
use Rattle.field_role.proofs.Roles.{size-allowed}
use Rattle.answer_fields.proofs.Passes.{pass-begins, pass-stops, pass-room, pass-goes-on, pass-skips}
use Rattle.answer_fields.proofs.answers.Goals as goal

pub loop-field-init : goal.loop-field-init
loop-field-init c =
    let g = c.args.given in
    rw c.none_met-met.ensures (pass-begins g.request.now g.filter.now g.information.now c.args.out.now c.requires.header)

pub answer_to-at-requires : goal.answer_to-at-requires
answer_to-at-requires c = (
  subst⁻¹ (SizeAllowed c.in-Found.field) c.role_of-role.ensures (size-allowed _ _ c.in-Found.field),
  c.requires.parts,
  pass-room _ _ _ _ c.loop-field.invariant c.requires _ c.step.ensures _ _ c.in-Found.is,
)

pub loop-field-preserved-then-is_answered : goal.loop-field-preserved-then-is_answered
loop-field-preserved-then-is_answered c =
    pass-goes-on _ _ _ _ c.loop-field.invariant c.requires _ c.step.ensures _ _ c.in-Found.is
    c.role_of-role.ensures c.met_after-met.ensures c.answer_to-at.ensures

pub loop-field-preserved : goal.loop-field-preserved
loop-field-preserved c =
    pass-skips _ _ _ _ c.loop-field.invariant c.requires _ c.step.ensures _ _ c.in-Found.is
    (sym c.is_answered.ensures ∙ c.if-is_answered.false)

pub returns : goal.returns
returns c = pass-stops _ _ _ _ c.loop-field.invariant _ c.step.ensures (stopped _ c.in_default.not-Found)
