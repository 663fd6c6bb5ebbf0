-- When an answer is refused, and what it returns where it is and where it is not. Assumes nothing.
use mathlib.Core.Path.{◌≡◌, refl, ap, ◌∙◌}
use mathlib.Core.Bool.{Bool, true, false, cond, ◌&&◌, ◌||◌}
use mathlib.Core.List.{List}
use Prim.Native.Nat.{ℕ, zero, suc}
use native.Mathlib.Omega.{arith}
use borrow.Author.Tests.{ltb-false, le-ltb, eq-eqb, eqb-true, eqb-false, ne_eqb, not-false}
use lib.Dec.{eqb}
use lib.ListN.{length, take}
use lib.Seq.{take_at}
use Rattle.store_rules.specs.Row.{Record, held, row_of, store_octets, size_of, wrong_store}
use Rattle.octets.proofs.Tests.{or-none}
use Rattle.header.proofs.Layouts.{within, not-over}
use Rattle.responder_rules.specs.Answer.{Given, Outcome, asking, wants_interleaved, row_after, wrong_arguments, first_refusal, wrong_fresh, short_output, refused_answer, answer_refusal, answer_octets, output_after, answer_of}
use Rattle.responder_rules.specs.Claim.{Accepted, InRange, AnswerClaim, Answerable}
use Rattle.responder_rules.proofs.Answers.{answer-size, answer-claim}

-- a refusal that is not given
pub not-given : (b : Bool) (n m : ℕ) → cond b (suc n) m ≡ 0 → (b ≡ false) × (m ≡ 0)
not-given true n m e = absurd (omega arith)
not-given false n m e = (refl, e)

-- of two results, chosen by whether a refusal is 0, the number is that refusal
pub by-refusal : {A : Type 0} (number : A → ℕ) (n : ℕ) {w v : A} → number w ≡ 0 → number v ≡ n → number (cond (eqb n 0) w v) ≡ n
by-refusal number zero e f = e
by-refusal number (suc n) {w} {v} e f = ap (λ (b : Bool). number (cond b w v)) (ne_eqb (suc n) 0 (λ z. omega arith)) ∙ f

-- no test gives a refusal where it is 0
pub none-refused : (wrong : Bool) (first : ℕ) (wrong_cookie short : Bool) → refused_answer wrong first wrong_cookie short ≡ 0
    → (wrong ≡ false) × (first ≡ 0) × (wrong_cookie ≡ false) × (short ≡ false)
none-refused true n f s e = absurd (omega arith)
none-refused false (suc n) f s e = absurd (omega (arith, rw (ne_eqb (suc n) 0 (λ e. omega arith)) at e))
none-refused false zero true s e = absurd (omega arith)
none-refused false zero false true e = absurd (omega arith)
none-refused false zero false false e = (refl, refl, refl, refl)

-- a fresh cookie that is needed and not wrong
right-fresh : (wants : Bool) (fresh_cookie : ℕ) (row : List Record) → wants && (eqb fresh_cookie 0 || held fresh_cookie row) ≡ false → wants ≡ true
    → (fresh_cookie ≡ 0 → ⊥) × (held fresh_cookie row ≡ false)
right-fresh wants fresh_cookie row h w = let p = or-none (eqb fresh_cookie 0) (held fresh_cookie row) (rw w at h) in (eqb-false fresh_cookie 0 p.0, p.1)

fresh-right : (wants : Bool) (fresh_cookie : ℕ) (row : List Record) → (wants ≡ true → (fresh_cookie ≡ 0 → ⊥) × (held fresh_cookie row ≡ false))
    → wants && (eqb fresh_cookie 0 || held fresh_cookie row) ≡ false
fresh-right true fresh_cookie row h = rw (ne_eqb fresh_cookie 0 (h refl).0) (h refl).1
fresh-right false fresh_cookie row h = refl

-- arguments and a request that are not refused
pub record FirstPass (g : Given) : Type 0 where
  pub accepted : Accepted g
  pub receive : g.receive ≡ 0 → ⊥
  pub estimate : g.estimate ≡ 0 → ⊥

pub first-pass : (g : Given) → first_refusal g ≡ 0 → FirstPass g
first-pass g e =
    let first = not-given (wrong_arguments g.edition g.server g.filter g.information g.receive g.estimate) 5 _ e in
    let five = or-none _ (eqb g.estimate 0) first.0 in
    let four = or-none _ (eqb g.receive 0) five.0 in
    let three = or-none _ _ four.0 in
    let two = or-none _ _ three.0 in
    let one = or-none _ _ two.0 in
    record {
      accepted = record {
        request = first.1;
        filter = eqb-true _ _ (not-false _ one.1);
        information = eqb-true _ _ (not-false _ two.1);
        leap = ltb-false _ _ three.1;
        limits = within g.edition one.0;
      };
      receive = eqb-false g.receive 0 four.1;
      estimate = eqb-false g.estimate 0 five.1;
    }

-- no refusal applies to an answer that is not refused
pub answerable : (g : Given) (store out : List ℕ) → answer_refusal g store out ≡ 0 → Answerable g store out
unfolding answer_refusal
answerable g store out e =
    let none = none-refused (wrong_store store) (first_refusal g) (wrong_fresh (asking g) g.fresh_cookie (row_of store)) (short_output g out) e in
    let pass = first-pass g none.1 in
    record {
      right = none.0;
      accepted = pass.accepted;
      receive = pass.receive;
      estimate = pass.estimate;
      fresh = right-fresh (wants_interleaved (asking g)) g.fresh_cookie (row_of store) none.2;
      room = ltb-false _ _ none.3;
    }

-- and an answer to which none applies is not refused
pub not-refused : (g : Given) (store out : List ℕ) → Answerable g store out → answer_refusal g store out ≡ 0
unfolding answer_refusal
not-refused g store out a =
    let c = a.accepted in
    let filter = eq-eqb (length g.filter) 512 c.filter in
    let information = eq-eqb (length g.information) 4 c.information in
    let leap = le-ltb 3 g.server.leap c.leap in
    let limits = not-over g.edition c.limits in
    let receive = ne_eqb g.receive 0 a.receive in
    let estimate = ne_eqb g.estimate 0 a.estimate in
    let fresh = fresh-right (wants_interleaved (asking g)) g.fresh_cookie (row_of store) a.fresh in
    rw (a.right, filter, information, leap, receive, estimate, limits, c.request, fresh, le-ltb (length out) (length g.request) a.room)

pub answer-accepted : (g : Given) (store out : List ℕ) → answer_refusal g store out ≡ 0 → Accepted g
answer-accepted g store out e = (answerable g store out e).accepted

pub answer-stored : (g : Given) (store out : List ℕ) → answer_refusal g store out ≡ 0 → wrong_store store ≡ false
answer-stored g store out e = (answerable g store out e).right

-- what an answer returns where its refusal is 0
pub answer-written : (g : Given) (store out : List ℕ) → answer_refusal g store out ≡ 0 → answer_of g store out ≡ record {
  refusal = 0;
  size = length g.request;
  out = output_after g (row_of store) out;
  store = store_octets (size_of store) (row_after (asking g) g.fresh_cookie (size_of store) (row_of store));
}
unfolding answer_of
answer-written g store out e = rw (eq-eqb _ _ e)

-- and where it is not: the number, and nothing changed
pub answer-refused : (g : Given) (store out : List ℕ) → (answer_refusal g store out ≡ 0 → ⊥)
    → answer_of g store out ≡ record { refusal = answer_refusal g store out; size = 0; out = out; store = store }
unfolding answer_of
answer-refused g store out h = rw (ne_eqb _ 0 h)

-- the number that an answer returns is its refusal
pub answer-number : (g : Given) (store out : List ℕ) → (answer_of g store out).refusal ≡ answer_refusal g store out
unfolding answer_of
answer-number g store out = by-refusal (λ (w : Outcome). w.refusal) (answer_refusal g store out) refl refl

-- the claim, of each answer that is not refused
pub answer-given : (g : Given) (store out : List ℕ) → answer_refusal g store out ≡ 0 → InRange g (row_of store) → AnswerClaim g (row_of store) (answer_octets g (row_of store))
answer-given g store out e r = answer-claim g (row_of store) (answer-accepted g store out e) r

-- the octets that it writes
pub answer-sent : (g : Given) (store out : List ℕ) → answer_refusal g store out ≡ 0 → let w = answer_of g store out in take w.size w.out ≡ answer_octets g (row_of store)
answer-sent g store out e =
    ap (λ (w : Outcome). take w.size w.out) (answer-written g store out e)
    ∙ take_at (answer_octets g (row_of store)) _ (length g.request) (answer-size g (answer-accepted g store out e) (row_of store))
