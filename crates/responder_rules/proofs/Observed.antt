-- What an answer on a store whose row is known is observed as: interleaved just where it sends the time saved for its request's cookie.
-- Assumes nothing.
use mathlib.Core.Path.{◌≡◌, refl, sym, ap, ◌∙◌}
use mathlib.Core.Bool.{Bool, true, false, cond, not, true≢false, false≢true}
use mathlib.Core.Logic.{◌⊎◌, inl, inr}
use mathlib.Core.List.{List, []}
use Prim.Native.Nat.{ℕ, ◌/◌, ◌%◌}
use native.Mathlib.Omega.{arith}
use borrow.Author.Tests.{eq-eqb, ne_eqb, eqb-true, eqb-false}
use lib.Dec.{eqb}
use Rattle.header.specs.Edition.{interleaved_flag}
use Rattle.header.specs.Header.{header_of}
use Rattle.header.specs.declared.edition.Edition.{Edition}
use Rattle.header.specs.declared.edition.Edition.TheVariants.{One, Seven}
use Rattle.octets.proofs.Tests.{by-outcome}
use Rattle.store_rules.specs.Row.{Record, held, without, joined, row_of}
use Rattle.store_rules.proofs.Rows.{SoundRow, time-held}
use Rattle.store_rules.proofs.Stores.{Stores, stores_row}
use Rattle.store_rules.proofs.Kept.{without_gone}
use Rattle.store_rules.proofs.Joins.{held-joined}
use Rattle.responder_rules.specs.Answer.{Given, Outcome, asking, saved_time, sent_flags, sent_header, answer_refusal, answer_of}
use Rattle.responder_rules.specs.Claim.{InRange}
use Rattle.responder_rules.specs.Once.{asked_cookie, interleaved}
use Rattle.responder_rules.proofs.Answers.{answer-header-more}
use Rattle.responder_rules.proofs.Accepting.{answer-accepted, answer-refused}
use Rattle.responder_rules.proofs.Leaving.{range-row, Saved, is-saved, answer-result, answer-stores, fresh-new}

-- the interleaved flag is set just where a saved time is sent
pub flag-put : (e : Edition) (flags saved : ℕ) → interleaved_flag e (sent_flags e flags saved) ≡ not (eqb saved 0)
flag-put One flags saved =
    let flag = sent_flags One flags saved / 4 % 2 in
    by-outcome (eqb saved 0)
    (λ q. let c : ◌≡◌ {A = ℕ} (cond (eqb saved 0) 0 4) 0 = rw q in ne_eqb flag 1 (λ z. omega arith) ∙ sym (ap not q))
    (λ q. let c : ◌≡◌ {A = ℕ} (cond (eqb saved 0) 0 4) 4 = rw q in eq-eqb flag 1 (omega arith) ∙ sym (ap not q))
flag-put Seven flags saved =
    let flag = sent_flags Seven flags saved / 2 % 2 in
    by-outcome (eqb saved 0)
    (λ q. let c : ◌≡◌ {A = ℕ} (cond (eqb saved 0) 0 2) 0 = rw q in ne_eqb flag 1 (λ z. omega arith) ∙ sym (ap not q))
    (λ q. let c : ◌≡◌ {A = ℕ} (cond (eqb saved 0) 0 2) 2 = rw q in eq-eqb flag 1 (omega arith) ∙ sym (ap not q))

header-flag : (g : Given) (row : List Record) → interleaved_flag g.edition (sent_header g row).flags ≡ not (eqb (saved_time (asking g) row) 0)
unfolding header_of
header-flag g row = flag-put g.edition g.server.flags (saved_time (asking g) row)

-- the cookie whose record leaves is not in the row that a fresh one has joined
left-joined : (n fresh_cookie c : ℕ) (row : List Record) → SoundRow row → held c row ≡ true → held fresh_cookie row ≡ false → held c (joined n fresh_cookie (without c row)) ≡ false
left-joined n fresh_cookie c row g h k = go (held c (joined n fresh_cookie (without c row))) refl
  where
    either : (held c (without c row) ≡ true) ⊎ (c ≡ fresh_cookie) → ⊥
    either (inl e) = true≢false (sym e ∙ without_gone c row g)
    either (inr e) = true≢false (sym h ∙ ap (λ (d : ℕ). held d row) e ∙ k)

    go : (b : Bool) → held c (joined n fresh_cookie (without c row)) ≡ b → b ≡ false
    go true e = absurd (either (held-joined n fresh_cookie (without c row) c e))
    go false e = refl

module _ {s : List ℕ} {n : ℕ} {row : List Record} (w : Stores s n row) (g : Given) (r : InRange g []) (out : List ℕ) where
  abbrev got : Outcome
  got = answer_of g s out

  abbrev basic : Bool
  basic = eqb (saved_time (asking g) row) 0

  -- a refused answer is not observed as interleaved
  pub refused-observed : (answer_refusal g s out ≡ 0 → ⊥) → interleaved g.edition got.refusal got.out ≡ false
  refused-observed h = rw (answer-refused g s out h, ne_eqb (answer_refusal g s out) 0 h)

  module _ (e : answer_refusal g s out ≡ 0) where
    -- the header that stands in the output is the one that went in
    pub output-header : header_of g.edition got.out ≡ sent_header g row
    output-header =
        ap (λ (o : Outcome). header_of g.edition o.out) (answer-result w g out e)
        ∙ answer-header-more g row (answer-accepted g s out e) (range-row g row w.sound r) _

    -- an answer that is not refused is observed as interleaved where a time is saved
    pub accepted-observed : interleaved g.edition got.refusal got.out ≡ not basic
    accepted-observed = rw (output-header, ap (λ (o : Outcome). o.refusal) (answer-result w g out e)) (header-flag g row)

  -- so one that is observed as interleaved was not refused, and sent a saved time
  pub interleaved-saved : interleaved g.edition got.refusal got.out ≡ true → (answer_refusal g s out ≡ 0) × Saved g row
  interleaved-saved h = go (eqb (answer_refusal g s out) 0) refl
    where
      time : (b : Bool) → basic ≡ b → not b ≡ true → Saved g row
      time true q k = absurd (false≢true k)
      time false q k = is-saved g row q

      go : (b : Bool) → eqb (answer_refusal g s out) 0 ≡ b → (answer_refusal g s out ≡ 0) × Saved g row
      go true q = let e = eqb-true _ 0 q in (e, time basic refl (sym (accepted-observed e) ∙ h))
      go false q = absurd (false≢true (sym (refused-observed (eqb-false _ 0 q)) ∙ h))

  -- and its request's cookie has left the store
  pub interleaved-left : interleaved g.edition got.refusal got.out ≡ true → held (asked_cookie g) (row_of got.store) ≡ false
  interleaved-left h =
      let p = interleaved-saved h in
      let c = asked_cookie g in
      let left = ap (λ (o : Outcome). row_of o.store) (answer-result w g out p.0) ∙ stores_row (answer-stores w g out r.fresh_cookie p.0) ∙ p.1.row-after n in
      ap (held c) left ∙ left-joined n g.fresh_cookie c row w.sound (time-held c row p.1.some) (fresh-new w g out p.0 p.1.wanted).1
