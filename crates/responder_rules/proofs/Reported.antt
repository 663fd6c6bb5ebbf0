-- What a clear and a report return and leave, and that they leave the octets of a sound row. Assumes nothing.
use mathlib.Core.Path.{◌≡◌, refl, sym, ap, ◌∙◌}
use mathlib.Core.Bool.{true, false, not, ◌||◌}
use mathlib.Core.List.{List, []}
use Prim.Native.Nat.{ℕ, ◌<◌, ◌^◌}
use native.Mathlib.Omega.{arith}
use borrow.Author.Tests.{ne_eqb, eqb-true, eqb-false, not-false}
use lib.Dec.{eqb}
use Rattle.store_rules.specs.Row.{Record, held, time_of, with_time, store_octets, size_of, row_of, wrong_size, wrong_store, cleared, report_refusal, reporting}
use Rattle.octets.proofs.Tests.{or-none}
use Rattle.store_rules.proofs.Stores.{Stores, right-size, store-written, stores_row, stores-size}
use Rattle.store_rules.proofs.Kept.{length-reported, sound-reported}
use Rattle.responder_rules.specs.Claim.{Reportable}
use Rattle.responder_rules.proofs.Accepting.{not-given, by-refusal}

-- ---- a clear

-- a clear of octets of the right size
pub clear-result : (s : List ℕ) → wrong_size s ≡ false → cleared s ≡ (0, store_octets (size_of s) [])
unfolding cleared
clear-result s h = rw h

-- leaves an empty row
pub clear-stores : (s : List ℕ) → wrong_size s ≡ false → Stores (cleared s).1 (size_of s) []
clear-stores s h = let z = right-size s h in rw (clear-result s h) (store-written (size_of s) [] tt (omega arith) z.0 z.1)

-- ---- a report

-- no refusal applies to a report that is accepted
pub reportable : (s : List ℕ) (c t : ℕ) → report_refusal s c t ≡ 0 → Reportable c t s
reportable s c t e =
    let p = not-given (wrong_store s || eqb t 0) 5 _ e in
    let first = or-none (wrong_store s) (eqb t 0) p.0 in
    let q = not-given (not (held c (row_of s)) || not (eqb (time_of c (row_of s)) 0)) 11 0 p.1 in
    let second = or-none (not (held c (row_of s))) _ q.0 in
    record {
      right = first.0;
      time = eqb-false t 0 first.1;
      in_row = not-false _ second.0;
      unreported = eqb-true _ 0 (not-false _ second.1);
    }

-- and one to which none applies is accepted
pub report-accepted : (s : List ℕ) (c t : ℕ) → Reportable c t s → report_refusal s c t ≡ 0
report-accepted s c t r = rw (r.right, ne_eqb t 0 r.time, r.in_row, r.unreported)

-- a refused report leaves the store
pub report-refused : (s : List ℕ) (c t : ℕ) → (report_refusal s c t ≡ 0 → ⊥) → reporting s c t ≡ (report_refusal s c t, s)
unfolding reporting
report-refused s c t h = rw (ne_eqb (report_refusal s c t) 0 h)

-- the number that a report returns is its refusal
pub report-number : (s : List ℕ) (c t : ℕ) → (reporting s c t).0 ≡ report_refusal s c t
unfolding reporting
report-number s c t = by-refusal (λ (w : ℕ × List ℕ). w.0) (report_refusal s c t) refl refl

module _ {s : List ℕ} {n : ℕ} {row : List Record} (w : Stores s n row) (c t : ℕ) (e : report_refusal s c t ≡ 0) where
  -- one that is accepted finds its cookie
  pub report-held : held c row ≡ true
  report-held = ap (held c) (sym (stores_row w)) ∙ (reportable s c t e).in_row

  -- and gives it the time
  pub report-result : reporting s c t ≡ (0, store_octets n (with_time c t row))
  unfolding reporting
  report-result = rw (e, stores_row w, stores-size w)

  -- the row stays sound and within its size
  pub report-stores : t < 2 ^ 64 → Stores (store_octets n (with_time c t row)) n (with_time c t row)
  report-stores small =
      let k = w.within in
      let l = length-reported c t row in
      store-written n (with_time c t row) (sound-reported c t row small w.sound) (omega arith) w.low w.high
