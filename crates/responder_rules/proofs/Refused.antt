-- A refused call changes nothing, and its number is one that concerns the call. Assumes nothing.
use mathlib.Core.Path.{◌≡◌, refl, ◌∙◌, subst⁻¹}
use mathlib.Core.Bool.{Bool, true, false, not, ◌||◌}
use mathlib.Core.List.{List}
use Prim.Native.Nat.{ℕ}
use lib.Dec.{eqb}
use Rattle.octets.specs.Among.{among}
use Rattle.octets.proofs.Tests.{by-test}
use Rattle.chain.proofs.Refusals.{sound-number}
use Rattle.store_rules.specs.Row.{held, time_of, row_of, wrong_size, wrong_store, cleared, report_refusal}
use Rattle.responder_rules.specs.Answer.{Given, asking, wrong_arguments, first_refusal, wrong_fresh, short_output, answer_refusal}
use Rattle.responder_rules.specs.Call.{clear, report, answer, step_store}
use Rattle.responder_rules.specs.Refused.{refusals_of, RefusedCall, Refusals}
use Rattle.responder_rules.proofs.Accepting.{answer-refused, answer-number}
use Rattle.responder_rules.proofs.Reported.{report-refused, report-number}

-- ---- the numbers

-- a refusal that is one of some numbers
abbrev OneOf : List ℕ → ℕ → Type 0
OneOf ms n = (n ≡ 0 → ⊥) → among n ms ≡ true

none : (ms : List ℕ) → OneOf ms 0
none ms z = absurd (z refl)

answer-one : (g : Given) (store out : List ℕ) → OneOf (refusals_of (answer g out)) (answer_refusal g store out)
unfolding answer_refusal
answer-one g store out =
    let ms = refusals_of (answer g out) in
    let sound = sound-number (OneOf ms) (none ms) (λ z. refl) (λ z. refl) (λ z. refl) (λ z. refl) (λ z. refl) (λ z. refl) g.request 3 in
    let first : OneOf ms (first_refusal g) = by-test (OneOf ms) (wrong_arguments g.edition g.server g.filter g.information g.receive g.estimate) (λ e z. refl) (λ e. sound) in
    by-test (OneOf ms) (wrong_store store) (λ e z. refl) (λ e.
    by-test (OneOf ms) (not (eqb (first_refusal g) 0)) (λ e. first) (λ e.
    by-test (OneOf ms) (wrong_fresh (asking g) g.fresh_cookie (row_of store)) (λ e z. refl) (λ e.
    by-test (OneOf ms) (short_output g out) (λ e z. refl) (λ e. none ms))))

report-one : (s : List ℕ) (c t : ℕ) → OneOf (refusals_of (report c t)) (report_refusal s c t)
report-one s c t =
    let ms = refusals_of (report c t) in
    by-test (OneOf ms) (wrong_store s || eqb t 0) (λ e z. refl) (λ e.
    by-test (OneOf ms) (not (held c (row_of s)) || not (eqb (time_of c (row_of s)) 0)) (λ e z. refl) (λ e. none ms))

-- ---- the calls

pub refusals : Refusals
unfolding cleared
refusals clear s = go (wrong_size s) refl
  where
    go : (b : Bool) → wrong_size s ≡ b → ((step_store clear s).refusal ≡ 0 → ⊥) → RefusedCall clear s (step_store clear s)
    go true e z = record { store = rw e; out = refl; size = refl; number = rw e }
    go false e z = absurd (z (rw e))
refusals (report c t) s = λ z.
    let h : report_refusal s c t ≡ 0 → ⊥ = λ e. z (report-number s c t ∙ e) in
    let e = report-refused s c t h in
    record { store = rw e; out = refl; size = refl; number = rw (report-number s c t) (report-one s c t h) }
refusals (answer g out) s = λ z.
    let h : answer_refusal g s out ≡ 0 → ⊥ = λ e. z (answer-number g s out ∙ e) in
    subst⁻¹ (RefusedCall (answer g out) s) (answer-refused g s out h)
    (record { store = refl; out = refl; size = refl; number = answer-one g s out h })
