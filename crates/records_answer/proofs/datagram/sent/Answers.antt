-- Header and fields are written one after the other.
use Rattle.std.proofs.Common.{ap, rules, Result, ℕ}
use Rattle.refusal.specs.Refusal.{by_number}
use Rattle.refusal.specs.declared.Refusal.{Refusal}
use Rattle.responder_rules.specs.Answer.{given_as, Given}
use Rattle.responder.proofs.Writing.{request-size}
use Rattle.answer_plan.specs.Step.{step_as}
use Rattle.records_answer.specs.Sent.{Ready}
use Rattle.records_answer.proofs.Sending.{header_is, all-sent}
use Rattle.records_answer.proofs.datagram.sent.Goals as goal
use Rattle.records_answer.proofs.datagram.sent.Goals.{In_ok-asked}

-- what the call is given
abbrev given_at : In_ok-asked → Given
given_at c = given_as c.args.given c.args.edition

-- the step is not refused
ready : (c : In_ok-asked) → Ready (by_number c.args.checked) (given_at c) c.args.out.now
ready c = c.requires (ap (λ (r : Result ℕ Refusal). (step_as (by_number r)).refusal) c.in_ok-saved.was)

pub overflow_cast-result : goal.overflow_cast-result
overflow_cast-result c =
    let size = request-size _ (ready (goal.at.overflow_cast-result c).In_ok-asked).accepted.request in
    search rules

pub returns : goal.returns
returns c =
    let d = (goal.at.returns c).In_ok-asked in
    rw c.in_ok-saved.was
    (all-sent (given_at d) c.args.out.now (ready d) c.in_ok-saved.saved (header_is (given_at d) c.args.out.now (ready d) (ap by_number c.in_ok-asked.was)) c.header_of-header.ensures c.put.ensures c.write.ensures)
