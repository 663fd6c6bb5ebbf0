-- Numbers of 64 bits stay such numbers, whatever is done with the records. Assumes nothing.
use mathlib.Core.Path.{◌≡◌, refl}
use mathlib.Core.Bool.{Bool, cond}
use mathlib.Core.List.{List, [], ◌∷◌, ◌++◌}
use Prim.Native.Nat.{ℕ, zero, suc, ◌+◌, ◌-◌, ◌<◌, ◌^◌}
use native.Mathlib.Omega.{arith}
use borrow.Author.Tests.{eqb-true}
use lib.Dec.{eqb, ltb}
use lib.ListN.{length, take, drop, replicate}
use Rattle.octets.proofs.Tests.{by-test}
use Rattle.header.specs.declared.Header.{Header}
use Rattle.std.specs.Prelude.{Result, Ok, Err}
use Rattle.store_rules.specs.Row.{Record, held, with_time, without, unused, used_of}
use Rattle.records.specs.Records.{unused_record, Fit, wrong_count, wrong_records, clear_records, report_refusal, report_records, leave_records, with_cookie_at_free, join_records}
use Rattle.responder_rules.specs.Answer.{Given, wants_interleaved, saved_time, row_after, wrong_fresh, short_output, refused_answer}
use Rattle.answer_plan.specs.Step.{Stepped, answer_step}
use Rattle.records_answer.specs.Answer.{Outcome, checked_request, step_of, answer_records}
use Rattle.records_answer.specs.Same.{Call, clear, wrong, find, time, report, leave, join, answer, call_on_records, Typed}

fit_append : (a b : List Record) → Fit a → Fit b → Fit (a ++ b)
fit_append [] b f g = g
fit_append (r ∷ a) b f g = (f.0, f.1, fit_append a b f.2 g)

fit-take : (n : ℕ) (rs : List Record) → Fit rs → Fit (take n rs)
fit-take zero rs f = tt
fit-take (suc n) [] f = tt
fit-take (suc n) (r ∷ rs) f = (f.0, f.1, fit-take n rs f.2)

fit-drop : (n : ℕ) (rs : List Record) → Fit rs → Fit (drop n rs)
fit-drop zero rs f = f
fit-drop (suc n) [] f = tt
fit-drop (suc n) (r ∷ rs) f = fit-drop n rs f.2

fit-unused : (n : ℕ) → Fit (replicate n unused_record)
fit-unused zero = tt
fit-unused (suc n) = (omega arith, omega arith, fit-unused n)

-- of what a call leaves, beside its refusal
abbrev FitLeft : ℕ × List Record → Type 0
FitLeft w = Fit w.1

fit-clear : (rs : List Record) → Fit rs → Fit (clear_records rs).1
unfolding clear_records
fit-clear rs f = by-test FitLeft (wrong_count (length rs)) (λ e. f) (λ e. fit-unused (length rs))

fit-reported : (c t : ℕ) (rs : List Record) → t < 2 ^ 64 → Fit rs → Fit (with_time c t rs)
unfolding with_time
fit-reported c t [] h f = tt
fit-reported c t (r ∷ rs) h f = by-test Fit (eqb r.cookie c) (λ e. (rw (eqb-true r.cookie c e) at f.0, h, f.2)) (λ e. (f.0, f.1, fit-reported c t rs h f.2))

pub fit-report : (rs : List Record) (c t : ℕ) → t < 2 ^ 64 → Fit rs → Fit (report_records rs c t).1
unfolding report_records
fit-report rs c t h f = by-test FitLeft (eqb (report_refusal rs c t) 0) (λ e. fit-reported c t rs h f) (λ e. f)

pub fit-leave : (rs : List Record) (at : ℕ) → Fit rs → Fit (leave_records rs at)
unfolding leave_records
fit-leave rs at f = fit_append (take at rs) (drop (at + 1) (rs ++ (unused_record ∷ []))) (fit-take at rs f) (fit-drop (at + 1) (rs ++ (unused_record ∷ [])) (fit_append rs (unused_record ∷ []) f (fit-unused 1)))

fit-with-cookie : (c : ℕ) (rs : List Record) → c < 2 ^ 64 → Fit rs → Fit (with_cookie_at_free c rs)
unfolding with_cookie_at_free
fit-with-cookie c [] h f = tt
fit-with-cookie c (r ∷ rs) h f = by-test Fit (eqb r.cookie 0) (λ e. (h, f.1, f.2)) (λ e. (f.0, f.1, fit-with-cookie c rs h f.2))

pub fit-join : (rs : List Record) (c : ℕ) → c < 2 ^ 64 → Fit rs → Fit (join_records rs c)
unfolding join_records
fit-join rs c h f = fit-with-cookie c (cond (held 0 rs) rs (leave_records rs 0)) h (by-test Fit (held 0 rs) (λ e. f) (λ e. fit-leave rs 0 f))

fit-used : (rs : List Record) → Fit rs → Fit (used_of rs)
unfolding used_of
fit-used [] f = tt
fit-used (r ∷ rs) f = by-test Fit (unused r) (λ e. tt) (λ e. (f.0, f.1, fit-used rs f.2))

fit-without : (c : ℕ) (rs : List Record) → Fit rs → Fit (without c rs)
unfolding without
fit-without c [] f = tt
fit-without c (r ∷ rs) f = by-test Fit (eqb r.cookie c) (λ e. f.2) (λ e. (f.0, f.1, fit-without c rs f.2))

fit-after : (asked : Header) (fresh_cookie n : ℕ) (row : List Record) → fresh_cookie < 2 ^ 64 → Fit row → Fit (row_after asked fresh_cookie n row)
fit-after asked fresh_cookie n row h f =
    let c = asked.server_cookie.0 in
    let left = cond (eqb (saved_time asked row) 0) row (without c row) in
    let g : Fit left = by-test Fit (eqb (saved_time asked row) 0) (λ e. f) (λ e. fit-without c row f) in
    let rest = cond (ltb (length left) n) left (drop 1 left) in
    by-test Fit (wants_interleaved asked)
    (λ e. fit_append rest (record { cookie = fresh_cookie; time = 0 } ∷ []) (by-test Fit (ltb (length left) n) (λ q. g) (λ q. fit-drop 1 left g)) (h, omega arith, tt))
    (λ e. f)

fit-answer : (request : Result Header ℕ) (short : Bool) (fresh_cookie : ℕ) (rs : List Record) → fresh_cookie < 2 ^ 64 → Fit rs → Fit (answer_step request short fresh_cookie rs).records
unfolding answer_step
fit-answer (Err n) short fresh_cookie rs h f = f
fit-answer (Ok asked) short fresh_cookie rs h f =
    let row = row_after asked fresh_cookie (length rs) (used_of rs) in
    by-test (λ (s : Stepped). Fit s.records) (eqb (refused_answer (wrong_records rs) 0 (wrong_fresh asked fresh_cookie (used_of rs)) short) 0)
    (λ e. fit_append row (replicate (length rs - length row) unused_record) (fit-after asked fresh_cookie (length rs) (used_of rs) h (fit-used rs f)) (fit-unused (length rs - length row)))
    (λ e. f)

-- an answer leaves the records of its step
pub answer-records : (g : Given) (rs : List Record) (out : List ℕ) → (answer_records g rs out).records ≡ (step_of g rs out).records
unfolding answer_records
answer-records g rs out = by-test (λ (w : Outcome). w.records ≡ (step_of g rs out).records) (eqb (step_of g rs out).refusal 0) (λ e. refl) (λ e. refl)

pub fit-step : (c : Call) (rs : List Record) → Typed c → Fit rs → Fit (call_on_records c rs).1
fit-step clear rs t f = fit-clear rs f
fit-step wrong rs t f = f
fit-step (find c) rs t f = f
fit-step (time at) rs t f = f
fit-step (report c t') rs t f = fit-report rs c t' t f
fit-step (leave at) rs t f = fit-leave rs at f
fit-step (join c) rs t f = fit-join rs c t f
fit-step (answer g out) rs t f = rw (answer-records g rs out) (fit-answer (checked_request g) (short_output g out) g.fresh_cookie rs t f)
