-- An answer on records is the answer on their octets. Assumes nothing.
use mathlib.Core.Path.{◌≡◌, refl, sym, ap, ◌∙◌}
use mathlib.Core.List.{List}
use Prim.Native.Nat.{ℕ}
use lib.ListN.{length}
use Rattle.store_rules.specs.Row.{Record, used_of, row_octets, store_octets}
use Rattle.store_rules.proofs.Written.{store-row}
use Rattle.records.specs.Records.{Fit}
use Rattle.records.proofs.Encoding.{size_is, row_is, wrong-is}
use Rattle.responder_rules.specs.Answer.{Given, asking, row_after, first_refusal, short_output, output_after, answer_refusal, Outcome as OctetsOutcome, answer_of}
use Rattle.responder_rules.proofs.Accepting.{by-refusal, answer-written, answer-refused}
use Rattle.answer_plan.specs.Step.{Stepped}
use Rattle.records_answer.specs.Answer.{step_of, Outcome, answer_records}
use Rattle.records_answer.specs.Same.{Returned, answered}
use Rattle.records_answer.proofs.Ways.{Way, goes, stops, done, step_refusal, step_is, way, answer-done, answer-stopped}

module _ (g : Given) (rs : List Record) (f : Fit rs) (out : List ℕ) where
  -- the refusal is the octets'
  refusal-same : answer_refusal g (row_octets rs) out ≡ (step_of g rs out).refusal
  unfolding answer_refusal
  refusal-same = rw (wrong-is rs f, row_is rs f) (sym (ap (λ (s : Stepped). s.refusal) (step_is g rs out) ∙ by-refusal (λ (s : Stepped). s.refusal) (step_refusal g rs out) refl refl))

  -- what the octets return and leave, and what the records do
  abbrev of_octets : OctetsOutcome → Returned × List ℕ
  of_octets w = (answered w.refusal w.size w.out, w.store)

  abbrev of_records : Outcome → Returned × List ℕ
  of_records w = (answered w.refusal w.size w.out, row_octets w.records)

  -- the octets of the row that is left
  octets-left : store_octets (length rs) (row_after (asking g) g.fresh_cookie (length rs) (used_of rs)) ≡ row_octets (done g rs).records
  octets-left = store-row (length rs) (row_after (asking g) g.fresh_cookie (length rs) (used_of rs))

  pub answer-same : of_octets (answer_of g (row_octets rs) out) ≡ of_records (answer_records g rs out)
  answer-same = go (way g rs out)
    where
      go : Way g rs (first_refusal g) (short_output g out) (step_of g rs out) → of_octets (answer_of g (row_octets rs) out) ≡ of_records (answer_records g rs out)
      go (goes n s e) =
          ap of_octets (answer-written g (row_octets rs) out (refusal-same ∙ ap (λ (s : Stepped). s.refusal) e) ∙ rw (row_is rs f, size_is rs))
          ∙ ap (λ (l : List ℕ). (answered 0 (length g.request) (output_after g (used_of rs) out), l)) octets-left
          ∙ sym (ap of_records (answer-done g rs out e))
      go (stops z e) =
          ap of_octets (answer-refused g (row_octets rs) out (λ k. z (sym refusal-same ∙ k)))
          ∙ ap (λ (n : ℕ). (answered n 0 out, row_octets rs)) refusal-same
          ∙ sym (ap of_records (answer-stopped g rs out z e))

  -- an answer that is not refused, on the octets
  module _ (z : (answer_records g rs out).refusal ≡ 0) where
    pub answer-unrefused : answer_refusal g (row_octets rs) out ≡ 0
    answer-unrefused = go (way g rs out)
      where
        go : Way g rs (first_refusal g) (short_output g out) (step_of g rs out) → answer_refusal g (row_octets rs) out ≡ 0
        go (goes n s e) = refusal-same ∙ ap (λ (s : Stepped). s.refusal) e
        go (stops n e) = absurd (n (sym (ap (λ (w : Outcome). w.refusal) (answer-stopped g rs out n e)) ∙ z))

    pub answer-octets : store_octets (length rs) (row_after (asking g) g.fresh_cookie (length rs) (used_of rs)) ≡ row_octets (answer_records g rs out).records
    answer-octets = go (way g rs out)
      where
        go : Way g rs (first_refusal g) (short_output g out) (step_of g rs out) → store_octets (length rs) (row_after (asking g) g.fresh_cookie (length rs) (used_of rs)) ≡ row_octets (answer_records g rs out).records
        go (goes n s e) = octets-left ∙ sym (ap (λ (w : Outcome). row_octets w.records) (answer-done g rs out e))
        go (stops n e) = absurd (n (sym (ap (λ (w : Outcome). w.refusal) (answer-stopped g rs out n e)) ∙ z))
