-- Every time of a row is reported and not sent since, whatever is done to the row. Assumes nothing.
use mathlib.Core.Path.{◌≡◌, refl, sym, ap, ◌∙◌}
use mathlib.Core.Bool.{Bool, true, false, cond}
use mathlib.Core.List.{List, [], ◌∷◌}
use Prim.Native.Nat.{ℕ}
use borrow.Author.Tests.{eqb-true, eqb-false}
use lib.Dec.{eqb}
use Rattle.store_rules.specs.Row.{Record, held, time_of, with_time, without, joined}
use Rattle.store_rules.proofs.Rows.{SoundRow, time-absent, time-held}
use Rattle.store_rules.proofs.Kept.{time-without, without_gone, time-reported, time-reported-other}
use Rattle.store_rules.proofs.Joins.{time-joined, time-joined-fresh}

-- each time that is reported in the row is in `unsent` for its cookie
pub record TimesUnsent (unsent row : List Record) : Type 0 where
  pub same-time : (c : ℕ) → (time_of c row ≡ 0 → ⊥) → time_of c unsent ≡ time_of c row

-- nothing in the row
pub unsent-empty : (unsent : List Record) → TimesUnsent unsent []
unfolding time_of
unsent-empty unsent = record { same-time = λ c h. absurd (h refl) }

-- the times of the row itself
pub unsent-row : (row : List Record) → TimesUnsent row row
unsent-row row = record { same-time = λ c h. refl }

-- a fresh cookie joins
pub unsent-joined : (n d : ℕ) {unsent row : List Record} → SoundRow row → held d row ≡ false → TimesUnsent unsent row → TimesUnsent unsent (joined n d row)
unsent-joined n d {unsent} {row} g h o = record {
  same-time = λ c z.
      let new : c ≡ d → ⊥ = λ e. z (ap (λ (k : ℕ). time_of k (joined n d row)) e ∙ time-joined-fresh n d row h) in
      let e = time-joined n d row c g new (time-held c (joined n d row) z) in
      o.same-time c (λ q. z (e ∙ q)) ∙ sym e;
}

-- a record leaves, and its time was sent
pub unsent-without : (d : ℕ) {unsent row : List Record} → SoundRow row → TimesUnsent unsent row → TimesUnsent (without d unsent) (without d row)
unsent-without d {unsent} {row} g o = record {
  same-time = λ c z.
      let new : c ≡ d → ⊥ = λ e. z (ap (λ (k : ℕ). time_of k (without d row)) e ∙ time-absent d (without d row) (without_gone d row g)) in
      let e = time-without d c row new in
      time-without d c unsent new ∙ o.same-time c (λ q. z (e ∙ q)) ∙ sym e;
}

-- a time is reported
pub unsent-reported : (d t : ℕ) {unsent row : List Record} → held d row ≡ true → TimesUnsent unsent row
    → TimesUnsent (record { cookie = d; time = t } ∷ without d unsent) (with_time d t row)
unfolding time_of
unsent-reported d t {unsent} {row} h o = record { same-time = λ c z. go c z (eqb d c) refl }
  where
    go : (c : ℕ) → (time_of c (with_time d t row) ≡ 0 → ⊥) → (b : Bool) → eqb d c ≡ b → cond b t (time_of c (without d unsent)) ≡ time_of c (with_time d t row)
    go c z true e = sym (ap (λ (k : ℕ). time_of k (with_time d t row)) (sym (eqb-true d c e)) ∙ time-reported d t row h)
    go c z false e =
        let n : c ≡ d → ⊥ = λ q. eqb-false d c e (sym q) in
        let r = time-reported-other d t c row n in
        time-without d c unsent n ∙ o.same-time c (λ q. z (r ∙ q)) ∙ sym r
