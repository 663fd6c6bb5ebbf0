-- A call is accepted exactly when no refusal applies to it, and then does what the rules say, D-4 and R-3. Assumes nothing.
use mathlib.Core.Path.{sym, ap, ◌∙◌, subst⁻¹}
use mathlib.Core.List.{List, []}
use Prim.Native.Nat.{ℕ}
use lib.ListN.{length, drop}
use lib.Seq.{drop_at}
use Rattle.octets.specs.Number.{Octets}
use Rattle.store_rules.specs.Row.{row_of, reporting}
use Rattle.store_rules.proofs.Stores.{store-read}
use Rattle.responder_rules.specs.Answer.{Given, Outcome, answer_octets, answer_of}
use Rattle.responder_rules.specs.Claim.{InRange, AnswerClaim, Answerable, AnswerSent, EveryAnswer, EveryReport}
use Rattle.responder_rules.proofs.Answers.{answer-size}
use Rattle.responder_rules.proofs.Accepting.{answerable, not-refused, answer-written, answer-number, answer-given, answer-sent}
use Rattle.responder_rules.proofs.Leaving.{range-row}
use Rattle.responder_rules.proofs.Reported.{reportable, report-accepted, report-number}

-- an answer to which no refusal applies
sent : (g : Given) (store out : List ℕ) → InRange g [] → Octets store → Answerable g store out → AnswerSent g store out (answer_of g store out)
sent g store out r o a =
    let e = not-refused g store out a in
    let written = answer-written g store out e in
    let n = length g.request in
    let size = ap (λ (w : Outcome). w.size) written in
    record {
      refusal = ap (λ (w : Outcome). w.refusal) written;
      size = size;
      sent = subst⁻¹ (AnswerClaim g (row_of store)) (answer-sent g store out e) (answer-given g store out e (range-row g (row_of store) (store-read store o a.right).sound r));
      rest =
          ap (λ (w : Outcome). drop w.size w.out) written
          ∙ drop_at (answer_octets g (row_of store)) (drop n out) n (answer-size g a.accepted (row_of store))
          ∙ ap (λ (m : ℕ). drop m out) (sym size);
      stored = ap (λ (w : Outcome). w.store) written;
    }

pub every-answer : EveryAnswer
every-answer g store out r o = record {
  only-answerable = λ e. answerable g store out (sym (answer-number g store out) ∙ e);
  all-answerable = sent g store out r o;
}

pub every-report : EveryReport
unfolding reporting
every-report c t store = record {
  only-reportable = λ e. reportable store c t (sym (report-number store c t) ∙ e);
  all-reportable = λ r. rw (report-accepted store c t r);
}
