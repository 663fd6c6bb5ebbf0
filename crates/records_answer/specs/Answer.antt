-- The answer to a request, R-4 to R-20, where the row is a slice of records, G-9, for any records lent.
use Rattle.std.specs.Prelude.{Result, cond, List, ℕ, eqb, length}
use Rattle.header.specs.Header.{reading}
use Rattle.header.specs.declared.Header.{Header}
use Rattle.store_rules.specs.Row.{Record, used_of}
use Rattle.responder_rules.specs.Answer.{Given, asking, output_after, first_refusal, short_output, numbers_of}
use Rattle.answer_plan.specs.Step.{Stepped, answer_step}

-- the header of the request, or what it or the arguments are refused by
abbrev pub checked_request : Given → Result Header ℕ
checked_request g = reading (first_refusal g) (asking g)

-- the step of an answer
abbrev pub step_of : Given → List Record → (out : List ℕ) → Stepped
step_of g rs out = answer_step (checked_request g) (short_output g out) g.fresh_cookie rs

-- all that an answer returns and leaves
pub record Outcome : Type 0 where
  pub refusal : ℕ
  pub size : ℕ
  pub out : List ℕ
  pub records : List Record

abbrev pub outcome : Result ℕ ℕ → (out : List ℕ) → List Record → Outcome
outcome r out rs = record { refusal = (numbers_of r).0; size = (numbers_of r).1; out = out; records = rs }

unfoldable pub answer_records : Given → List Record → (out : List ℕ) → Outcome
answer_records g rs out =
    cond (eqb (step_of g rs out).refusal 0)
    (record { refusal = 0; size = length g.request; out = output_after g (used_of rs) out; records = (step_of g rs out).records })
    (record { refusal = (step_of g rs out).refusal; size = 0; out = out; records = (step_of g rs out).records })
