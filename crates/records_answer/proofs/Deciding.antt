-- What an answer returns and leaves, by what its step and what was sent say. Assumes nothing.
use mathlib.Core.Path.{◌≡◌, refl, sym, ap, ◌∙◌}
use mathlib.Core.List.{List, [], ◌++◌}
use Prim.Native.Nat.{ℕ}
use borrow.Author.Tests.{eq-eqb, ne_eqb}
use lib.ListN.{length, drop}
use Rattle.header.specs.Header.{reading}
use Rattle.store_rules.specs.Row.{Record, used_of}
use Rattle.responder_rules.specs.Answer.{Given, asking, saved_time, answer_octets, first_refusal, short_output}
use Rattle.std.specs.Prelude.{Result}
use Rattle.responder_rules.proofs.Accepting.{first-pass}
use Rattle.answer_plan.specs.Step.{AnswerStep, Stepped, stepped}
use Rattle.records_answer.specs.Answer.{checked_request, step_of, Outcome, outcome, answer_records}
use Rattle.records_answer.specs.Sent.{Ready, sent_octets, answer_sent}
use Rattle.records_answer.proofs.Ways.{Way, goes, stops, done, way, answer-done, answer-stopped}

-- the same with other records
abbrev leaving : List Record → Outcome → Outcome
leaving l w = record { refusal = w.refusal; size = w.size; out = w.out; records = l }

-- the octets that are sent
octets-sent : (g : Given) (rs : List Record) → sent_octets g (saved_time (asking g) (used_of rs)) ≡ answer_octets g (used_of rs)
unfolding answer_octets
octets-sent g rs = refl

module _ (g : Given) (rs : List Record) (out : List ℕ) (step : AnswerStep) (l : List Record) (e : stepped step l ≡ step_of g rs out) where
  number : step.refusal ≡ (step_of g rs out).refusal
  number = ap (λ (s : Stepped). s.refusal) e

  pub ready : step.refusal ≡ 0 → Ready (checked_request g) g out
  ready z = go (way g rs out)
    where
      go : Way g rs (first_refusal g) (short_output g out) (step_of g rs out) → Ready (checked_request g) g out
      go (goes n s q) = record { header = ap (λ (m : ℕ). reading m (asking g)) n; accepted = (first-pass g n).accepted; room = s }
      go (stops n q) = absurd (n (sym number ∙ z))

  pub answered : (r : Result ℕ ℕ) (o : List ℕ) → outcome r o [] ≡ answer_sent g step out → outcome r o l ≡ answer_records g rs out
  answered r o w = ap (leaving l) w ∙ go (way g rs out)
    where
      go : Way g rs (first_refusal g) (short_output g out) (step_of g rs out) → leaving l (answer_sent g step out) ≡ answer_records g rs out
      go (goes n s q) =
          let d = e ∙ q in
          let z : step.refusal ≡ 0 = ap (λ (s : Stepped). s.refusal) d in
          let t : step.saved ≡ saved_time (asking g) (used_of rs) = ap (λ (s : Stepped). s.saved) d in
          let k : l ≡ (done g rs).records = ap (λ (s : Stepped). s.records) d in
          rw (eq-eqb step.refusal 0 z, t, k)
          (ap (λ (m : List ℕ). record { refusal = 0; size = length g.request; out = m ++ drop (length g.request) out; records = (done g rs).records }) (octets-sent g rs)
          ∙ sym (answer-done g rs out q))
      go (stops n q) =
          let k : l ≡ rs = ap (λ (s : Stepped). s.records) e ∙ q in
          rw (ne_eqb step.refusal 0 (λ z. n (sym number ∙ z)), k, number) (sym (answer-stopped g rs out n q))
