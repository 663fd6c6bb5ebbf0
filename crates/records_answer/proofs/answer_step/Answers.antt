-- What is found in the records is what the plan on them takes, and the plan makes the step.
use Rattle.std.proofs.Common.{◌≡◌, ℕ, Bool, true, Result, Ok, Err, length, refl, sym, ap, ◌∙◌}
use native.Mathlib.Nat.{zero-add}
use Rattle.std.proofs.lemmas.Result.{err_from_is_err_and}
use Rattle.refusal.specs.Refusal.{result_by}
use Rattle.header.specs.declared.Header.{Header}
use Rattle.header.specs.declared.ServerCookie.{ServerCookie}
use Rattle.store_rules.specs.Place.{index_of}
use Rattle.records.specs.Records.{records_in}
use Rattle.records.proofs.Slots.{length-in}
use Rattle.answer_plan.specs.Step.{Stepped, stepped, answer_step}
use Rattle.answer_plan.specs.Value.{Plan, request_cookie, plan_of, planned}
use Rattle.answer_plan.proofs.Stepping.{step_by, plan_on, plan-steps}
use Rattle.records_answer.proofs.answer_step.Goals as goal
use Rattle.records_answer.proofs.answer_step.Goals.{After-plan_of}
use Rattle.records_answer.proofs.answer_step.Given.{Over}

-- what a request is refused by says nothing of its cookie
same-cookie : {R : Type 0} (number : R → ℕ) (r : Result Header R) → request_cookie r ≡ request_cookie (result_by number r)
same-cookie number (Ok asked) = refl
same-cookie number (Err e) = refl

module _ (g : Over) (c : After-plan_of g) where
  abbrev request : Result Header ℕ
  request = result_by g.R.RefusedBy.as_number c.args.request

  by-plan : {plan : Plan} {one : Bool} → (plan, one) ≡ planned (plan_of c.wrong.result request c.args.short c.args.fresh_cookie (length c.args.records.now) c.find.result c.find-at.result c.time.result)
      → step_by (records_in c.args.records.now) c.args.fresh_cookie plan ≡ answer_step request c.args.short c.args.fresh_cookie.0 (records_in c.args.records.now)
  by-plan {plan} {one} made =
      let rs = records_in c.args.records.now in
      let fresh = c.args.fresh_cookie in
      let f : index_of fresh.0 rs ≡ c.find.result = sym (c.find.ensures ∙ zero-add (index_of fresh.0 rs)) in
      let a : index_of (request_cookie request).0 rs ≡ c.find-at.result = sym (c.find-at.ensures ∙ zero-add (index_of c.asked_cookie.result.0 rs) ∙ ap (λ (k : ServerCookie). index_of k.0 rs) (c.asked_cookie.ensures ∙ same-cookie g.R.RefusedBy.as_number c.args.request)) in
      let found : plan_of c.wrong.result request c.args.short fresh (length c.args.records.now) c.find.result c.find-at.result c.time.result ≡ plan_on rs fresh request c.args.short =
      sym (rw (f, a, length-in c.args.records.now, ← c.time.ensures, ← c.wrong.ensures)) in
      ap (step_by rs fresh) (ap (λ (w : Plan × Bool). w.0) made ∙ found) ∙ plan-steps rs fresh request c.args.short

-- the step, and that what refuses is told by its number
abbrev also : Stepped → Stepped × Bool
also s = (s, true)

pub returns-in_err-plan_of : goal.returns-in_err-plan_of
returns-in_err-plan_of g c =
    let p = err_from_is_err_and c.from_residual.result c.from_residual.ensures.1 in
    let e = c.in_err-plan_of.ensures in
    rw (p.1, p.2, ap (λ (w : (Plan × Bool) × Bool). w.1) e) (ap also (by-plan g (goal.at.returns-in_err-plan_of g c).After-plan_of (ap (λ (w : (Plan × Bool) × Bool). w.0) e)))

pub returns-in-Basic : goal.returns-in-Basic
returns-in-Basic g c = ap also (by-plan g (goal.at.returns-in-Basic g c).After-plan_of (ap (λ (w : (Plan × Bool) × Bool). w.0) (rw c.in-Basic.is at c.in_ok-plan_of.ensures)))

pub returns-in-Interleaved : goal.returns-in-Interleaved
returns-in-Interleaved g c =
    ap also
    (ap (stepped (record { refusal = 0; saved = c.in-Interleaved.saved })) c.replace.ensures
    ∙ by-plan g (goal.at.returns-in-Interleaved g c).After-plan_of (ap (λ (w : (Plan × Bool) × Bool). w.0) (rw c.in-Interleaved.is at c.in_ok-plan_of.ensures)))
