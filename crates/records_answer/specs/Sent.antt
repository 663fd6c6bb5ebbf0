-- What is sent once the step is made, whatever the records are. The contracts of the calls do not cite it.
use Rattle.std.specs.Prelude.{Result, Ok, ◌≡◌, false, cond, List, [], ◌++◌, ℕ, eqb, length, drop}
use Rattle.header.specs.Header.{header_octets}
use Rattle.header.specs.declared.Header.{Header}
use Rattle.chain.specs.Content.{chain_octets}
use Rattle.responder_rules.specs.Answer.{Given, asking, answer_header, sent_fields, short_output}
use Rattle.responder_rules.specs.Claim.{Accepted}
use Rattle.records_answer.specs.Answer.{Outcome}
use Rattle.answer_plan.specs.Step.{AnswerStep}

-- what holds where the step is not refused
pub record Ready (checked : Result Header ℕ) (g : Given) (out : List ℕ) : Type 0 where
  pub header : checked ≡ Ok (asking g)
  pub accepted : Accepted g
  pub room : short_output g out ≡ false

-- the octets of an answer with a saved time
abbrev pub sent_octets : Given → (saved : ℕ) → List ℕ
sent_octets g saved = header_octets (answer_header g.server (asking g) g.receive g.estimate g.fresh_cookie saved) ++ chain_octets (sent_fields g)

-- the step's refusal, or the answer with the saved time that the step found; of the records nothing is said
abbrev pub answer_sent : Given → AnswerStep → (out : List ℕ) → Outcome
answer_sent g step out =
    cond (eqb step.refusal 0)
    (record { refusal = 0; size = length g.request; out = sent_octets g step.saved ++ drop (length g.request) out; records = [] })
    (record { refusal = step.refusal; size = 0; out = out; records = [] })
