-- The step of an answer by its tests, and what the answer then returns. Assumes nothing.
use mathlib.Core.Path.{◌≡◌, refl}
use mathlib.Core.Bool.{Bool, true, false, cond}
use mathlib.Core.List.{List}
use Prim.Native.Nat.{ℕ, zero, suc}
use native.Mathlib.Omega.{arith}
use borrow.Author.Tests.{eqb-true, eqb-false, ne_eqb}
use lib.Dec.{eqb}
use lib.ListN.{length}
use Rattle.header.specs.Header.{reading}
use Rattle.store_rules.specs.Row.{Record, used_of}
use Rattle.records.specs.Records.{wrong_records}
use Rattle.responder_rules.specs.Answer.{Given, asking, saved_time, row_after, first_refusal, wrong_fresh, short_output, refused_answer, output_after}
use Rattle.responder_rules.proofs.Accepting.{none-refused}
use Rattle.answer_plan.specs.Step.{Stepped, row_in_records, refused_step, answer_step}
use Rattle.records_answer.specs.Answer.{step_of, answer_records}

module _ (g : Given) (rs : List Record) where
  -- a step that is not refused
  abbrev pub done : Stepped
  done = record { refusal = 0; saved = saved_time (asking g) (used_of rs); records = row_in_records (length rs) (row_after (asking g) g.fresh_cookie (length rs) (used_of rs)) }

  -- it goes on, or a refusal stops it. `first` is that of the arguments and the request
  pub data Way (first : ℕ) (short : Bool) (s : Stepped) : Type 0 where
    goes : first ≡ 0 → short ≡ false → s ≡ done → Way first short s
    stops : (s.refusal ≡ 0 → ⊥) → s.records ≡ rs → Way first short s

module _ (g : Given) (rs : List Record) (out : List ℕ) where
  abbrev wrong_cookie : Bool
  wrong_cookie = wrong_fresh (asking g) g.fresh_cookie (used_of rs)

  -- what the step is refused by
  abbrev pub step_refusal : ℕ
  step_refusal = refused_answer (wrong_records rs) (first_refusal g) wrong_cookie (short_output g out)

  step-at : (first : ℕ) → let n = refused_answer (wrong_records rs) first wrong_cookie (short_output g out) in
      answer_step (reading first (asking g)) (short_output g out) g.fresh_cookie rs ≡ cond (eqb n 0) (done g rs) (refused_step n rs)
  unfolding answer_step
  step-at zero = refl
  step-at (suc n) = rw (ne_eqb (suc n) 0 (λ k. omega (arith, k))) (go (wrong_records rs))
    where
      go : (six : Bool) → refused_step (cond six 6 (suc n)) rs ≡ cond (eqb (cond six 6 (suc n)) 0) (done g rs) (refused_step (cond six 6 (suc n)) rs)
      go true = refl
      go false = rw (ne_eqb (suc n) 0 (λ k. omega (arith, k)))

  -- the step by its refusal
  pub step_is : step_of g rs out ≡ cond (eqb step_refusal 0) (done g rs) (refused_step step_refusal rs)
  step_is = step-at (first_refusal g)

  pub way : Way g rs (first_refusal g) (short_output g out) (step_of g rs out)
  way = rw step_is (go (eqb step_refusal 0) refl)
    where
      go : (b : Bool) → eqb step_refusal 0 ≡ b → Way g rs (first_refusal g) (short_output g out) (cond b (done g rs) (refused_step step_refusal rs))
      go true q =
          let none = none-refused (wrong_records rs) (first_refusal g) wrong_cookie (short_output g out) (eqb-true step_refusal 0 q) in
          goes none.1 none.3 refl
      go false q = stops (eqb-false step_refusal 0 q) refl

  -- an answer whose step goes on
  pub answer-done : step_of g rs out ≡ done g rs → answer_records g rs out
      ≡ record { refusal = 0; size = length g.request; out = output_after g (used_of rs) out; records = (done g rs).records }
  unfolding answer_records
  answer-done e = rw e

  -- and one that is refused
  pub answer-stopped : ((step_of g rs out).refusal ≡ 0 → ⊥) → (step_of g rs out).records ≡ rs → answer_records g rs out ≡ record { refusal = (step_of g rs out).refusal; size = 0; out = out; records = rs }
  unfolding answer_records
  answer-stopped z e = rw (ne_eqb (step_of g rs out).refusal 0 z, e)
