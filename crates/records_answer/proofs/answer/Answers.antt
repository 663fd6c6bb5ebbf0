-- The step decides on what was checked, and what is sent follows from the step.
use Rattle.std.proofs.Common.{◌≡◌, ℕ, Bool, Result, ap, ◌∙◌}
use Rattle.refusal.specs.Refusal.{by_number}
use Rattle.header.specs.declared.Header.{Header}
use Rattle.responder_rules.specs.Answer.{Given, given_as, short_output}
use Rattle.records.specs.Records.{records_in}
use Rattle.answer_plan.specs.Step.{AnswerStep, Stepped, step_as, stepped, answer_step}
use Rattle.records_answer.specs.Answer.{step_of}
use Rattle.records_answer.proofs.Deciding.{ready, answered}
use Rattle.records_answer.proofs.answer.Goals as goal
use Rattle.records_answer.proofs.answer.Goals.{After-answer_step-step}

-- what the call is given
abbrev given_at : After-answer_step-step → Given
given_at c = given_as c.args.given c.args.edition

-- what the step returns
abbrev step_at : After-answer_step-step → AnswerStep
step_at c = step_as (by_number c.answer_step-step.result)

-- the step's own words
made : (c : After-answer_step-step) → stepped (step_at c) (records_in c.answer_step-step.new.records) ≡ step_of (given_at c) (records_in c.args.records.now) c.args.out.now
made c =
    ap (λ (w : Stepped × Bool). w.0) c.answer_step-step.ensures
    ∙ ap (λ (r : Result Header ℕ). answer_step r (short_output (given_at c) c.args.out.now) c.args.given.fresh_cookie.0 (records_in c.args.records.now)) c.checked-checked.ensures

pub sent-requires : goal.sent-requires
sent-requires c z =
    let d = (goal.at.sent-requires c).After-answer_step-step in
    rw c.checked-checked.ensures (ready (given_at d) (records_in c.args.records.now) c.args.out.now (step_at d) (records_in c.answer_step-step.new.records) (made d) z)

pub returns : goal.returns
returns c =
    let d = (goal.at.returns c).After-answer_step-step in
    answered (given_at d) (records_in c.args.records.now) c.args.out.now (step_at d) (records_in c.answer_step-step.new.records) (made d) (by_number c.sent.result) c.sent.new.out c.sent.ensures
