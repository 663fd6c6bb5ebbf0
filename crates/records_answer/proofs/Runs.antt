-- Every list of calls on records is the same on their octets, and on records that are not wrong each call is the row's. Assumes nothing.
use mathlib.Core.Path.{◌≡◌, refl, sym, ap, ◌∙◌}
use mathlib.Core.Bool.{Bool, true, false, cond}
use mathlib.Core.List.{List, [], ◌∷◌}
use Prim.Native.Nat.{ℕ, ◌+◌, ◌<◌, ◌^◌}
use native.Mathlib.Omega.{arith}
use borrow.Author.Tests.{eqb-true, eqb-false}
use lib.Dec.{eqb}
use lib.ListN.{length}
use Rattle.octets.specs.Number.{put_at}
use Rattle.store_rules.specs.Row.{Record, held, with_time, without, joined, used_of, row_octets, store_octets, row_of, wrong_store}
use Rattle.store_rules.specs.Place.{index_of, place_of, removed, joined_octets}
use Rattle.store_rules.proofs.Rows.{held-index}
use Rattle.store_rules.proofs.Stores.{Stores, store-read, stores-right, stores_row}
use Rattle.store_rules.proofs.Steps.{stores-removed, stores-reported, stores-joined}
use Rattle.store_rules.proofs.Changed.{place-reported}
use Rattle.records.specs.Records.{records_in, Fit, wrong_records, report_refusal, report_records, leave_records, join_records}
use Rattle.records.proofs.Sounds.{held-row, time-row, time-at, right-sound}
use Rattle.records.proofs.Encoding.{size_is, row-octets, row_is, wrong-is, place_is, time-is}
use Rattle.records.proofs.Sameness.{clear-same, report-same, report-octets, unrefused, leave_same, join-same}
use Rattle.responder_rules.specs.Answer.{Given, asking, row_after}
use Rattle.responder_rules.proofs.Leaving.{answer-stores}
use Rattle.records_answer.specs.Answer.{answer_records}
use Rattle.records_answer.specs.Same.{Call, clear, wrong, find, time, report, leave, join, answer, Returned, number, call_on_records, call_on_octets, returned, after, AllTyped, SameCalls, Same, Holds, ByRow}
use Rattle.records_answer.proofs.Fits.{fit-report, fit-leave, fit-join, fit-step}
use Rattle.records_answer.proofs.Answering.{answer-same, answer-octets, answer-unrefused}

-- ---- every call

-- a call that returns a number
numbered : {S : Type 0} {v w : ℕ × S} → v ≡ w → ◌≡◌ {A = Returned × S} (number v.0, v.1) (number w.0, w.1)
numbered {S} e = ap (λ (w : ℕ × S). (number w.0, w.1)) e

-- what a call on records leaves, as octets
abbrev spelled : Returned × List Record → Returned × List ℕ
spelled w = (w.0, row_octets w.1)

step_same : (c : Call) (rs : List Record) → Fit rs → call_on_octets c (row_octets rs) ≡ spelled (call_on_records c rs)
step_same clear rs f = numbered (clear-same rs)
step_same wrong rs f = ap (λ (b : Bool). (number (cond b 1 0), row_octets rs)) (wrong-is rs f)
step_same (find c) rs f = ap (λ (i : ℕ). (number i, row_octets rs)) (rw (place_is rs f c) (omega arith))
step_same (time at) rs f = ap (λ (t : ℕ). (number t, row_octets rs)) (time-is rs f at)
step_same (report c t) rs f = numbered (report-same rs f c t)
step_same (leave at) rs f = ap (λ (l : List ℕ). (number 0, l)) (leave_same rs at)
step_same (join c) rs f = ap (λ (l : List ℕ). (number 0, l)) (join-same rs f c)
step_same (answer g out) rs f = answer-same g rs f out

-- ---- every list of calls

same-calls : (rs : List Record) → Fit rs → (cs : List Call) → AllTyped cs → SameCalls rs cs
unfolding returned after
same-calls rs f [] ts = record { returns = refl; left = refl; row = row_is rs f }
same-calls rs f (c ∷ cs) ts =
    let e = step_same c rs f in
    let a : (call_on_octets c (row_octets rs)).0 ≡ (call_on_records c rs).0 = ap (λ (w : Returned × List ℕ). w.0) e in
    let s : (call_on_octets c (row_octets rs)).1 ≡ row_octets (call_on_records c rs).1 = ap (λ (w : Returned × List ℕ). w.1) e in
    let w = same-calls (call_on_records c rs).1 (fit-step c rs ts.0 f) cs ts.1 in
    let l : returned call_on_octets cs (call_on_octets c (row_octets rs)).1 ≡ returned call_on_records cs (call_on_records c rs).1 = ap (returned call_on_octets cs) s ∙ w.returns in
    record {
      returns = λ i. a i ∷ l i;
      left = ap (after call_on_octets cs) s ∙ w.left;
      row = ap (λ (l : List ℕ). row_of (after call_on_octets cs l)) s ∙ w.row;
    }

pub same : Same
same slice f cs ts = same-calls (records_in slice) f cs ts

-- ---- the row's calls

-- records whose octets are a store hold its row
holds : (rs : List Record) → Fit rs → (s : List ℕ) → s ≡ row_octets rs → (n : ℕ) (row : List Record) → Stores s n row → Holds row rs
holds rs f s e n row w = record {
  right = sym (wrong-is rs f) ∙ ap wrong_store (sym e) ∙ stores-right w;
  its-row = sym (row_is rs f) ∙ ap row_of (sym e) ∙ stores_row w;
}

-- what a report that is not refused leaves
report-leaves : (rs : List Record) (c t : ℕ) → (report_records rs c t).0 ≡ 0 → (report_refusal rs c t ≡ 0) × ((report_records rs c t).1 ≡ with_time c t rs)
unfolding report_records
report-leaves rs c t = go (eqb (report_refusal rs c t) 0) refl
  where
    left : Bool → ℕ × List Record
    left b = cond b (0, with_time c t rs) (report_refusal rs c t, rs)

    go : (b : Bool) → eqb (report_refusal rs c t) 0 ≡ b → (left b).0 ≡ 0 → (report_refusal rs c t ≡ 0) × ((left b).1 ≡ with_time c t rs)
    go true q z = (eqb-true (report_refusal rs c t) 0 q, refl)
    go false q z = absurd (eqb-false (report_refusal rs c t) 0 q z)

module _ (rs : List Record) (f : Fit rs) (h : wrong_records rs ≡ false) where
  stored : Stores (row_octets rs) (length rs) (used_of rs)
  stored = rw (row_is rs f, size_is rs) at (store-read (row_octets rs) (row-octets rs) (wrong-is rs f ∙ h))

  report-holds : (c t : ℕ) → t < 2 ^ 64 → (report_records rs c t).0 ≡ 0 → Holds (with_time c t (used_of rs)) (report_records rs c t).1
  report-holds c t l z =
      let p = report-leaves rs c t z in
      let k = (unrefused rs f c t p.0).1 in
      let e = place-reported stored c t k ∙ ap (λ (n : ℕ). store_octets n (with_time c t (used_of rs))) (sym (size_is rs)) ∙ report-octets rs f c t h k ∙ ap row_octets (sym p.1) in
      holds (report_records rs c t).1 (fit-report rs c t l f) (put_at (row_octets rs) (place_of (row_octets rs) c + 8) 8 t) e (length rs) (with_time c t (used_of rs)) (stores-reported stored c t l k)

  leave-holds : (c : ℕ) → held c (used_of rs) ≡ true → Holds (without c (used_of rs)) (leave_records rs (index_of c rs))
  leave-holds c k =
      let e = ap (removed (row_octets rs)) (place_is rs f c) ∙ leave_same rs (index_of c rs) in
      holds (leave_records rs (index_of c rs)) (fit-leave rs (index_of c rs) f) (removed (row_octets rs) (place_of (row_octets rs) c)) e (length rs) (without c (used_of rs)) (stores-removed stored c k)

  join-holds : (c : ℕ) → (c ≡ 0 → ⊥) → c < 2 ^ 64 → held c (used_of rs) ≡ false → Holds (joined (length rs) c (used_of rs)) (join_records rs c)
  join-holds c z l k = holds (join_records rs c) (fit-join rs c l f) (joined_octets (row_octets rs) c) (join-same rs f c) (length rs) (joined (length rs) c (used_of rs)) (stores-joined stored c z l k)

  answer-row : (g : Given) (out : List ℕ) → g.fresh_cookie < 2 ^ 64 → (answer_records g rs out).refusal ≡ 0 → Holds (row_after (asking g) g.fresh_cookie (length rs) (used_of rs)) (answer_records g rs out).records
  answer-row g out l z =
      let row = row_after (asking g) g.fresh_cookie (length rs) (used_of rs) in
      holds (answer_records g rs out).records (fit-step (answer g out) rs l f) (store_octets (length rs) row) (answer-octets g rs f out z) (length rs) row (answer-stores stored g out l (answer-unrefused g rs f out z))

pub by_row : ByRow
by_row slice f h = let rs = records_in slice in record {
  finds = λ c z. held-row c rs (right-sound rs h) z ∙ held-index c rs;
  times = λ c. time-row c rs (right-sound rs h) ∙ time-at c rs;
  reports = report-holds rs f h;
  leaves = leave-holds rs f h;
  joins = join-holds rs f h;
  answers = answer-row rs f h;
}
