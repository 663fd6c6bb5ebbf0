-- A number's call leaves the table that its number leaves. Assumes nothing.
use mathlib.Core.Path.{◌≡◌, refl, subst⁻¹}
use mathlib.Core.Bool.{Bool, true, false}
use mathlib.Core.List.{List}
use Prim.Native.Nat.{ℕ}
use borrow.Author.Tests.{eqb-true}
use lib.Dec.{eqb}
use Rattle.changes.specs.Change.{change_of, call_of}
use Rattle.changes.specs.Rows.{row_number, change_for}

abbrev pub Same : ℕ → List ℕ → Type 0
Same n line = call_of (row_number (change_for n)) line ≡ call_of n line

pub same-call : (n : ℕ) (line : List ℕ) → Same n line
unfolding change_of
same-call n line = at7 (eqb n 7) refl
  where
    at12 : (b : Bool) → eqb n 7 ≡ false → eqb n 8 ≡ false → eqb n 9 ≡ false → eqb n 10 ≡ false → eqb n 11 ≡ false → eqb n 12 ≡ b → Same n line
    at12 true e7 e8 e9 e10 e11 e = subst⁻¹ (λ k. Same k line) (eqb-true n 12 e) refl
    at12 false e7 e8 e9 e10 e11 e = rw (e7, e8, e9, e10, e11, e) refl

    at11 : (b : Bool) → eqb n 7 ≡ false → eqb n 8 ≡ false → eqb n 9 ≡ false → eqb n 10 ≡ false → eqb n 11 ≡ b → Same n line
    at11 true e7 e8 e9 e10 e = subst⁻¹ (λ k. Same k line) (eqb-true n 11 e) refl
    at11 false e7 e8 e9 e10 e = at12 (eqb n 12) e7 e8 e9 e10 e refl

    at10 : (b : Bool) → eqb n 7 ≡ false → eqb n 8 ≡ false → eqb n 9 ≡ false → eqb n 10 ≡ b → Same n line
    at10 true e7 e8 e9 e = subst⁻¹ (λ k. Same k line) (eqb-true n 10 e) refl
    at10 false e7 e8 e9 e = at11 (eqb n 11) e7 e8 e9 e refl

    at9 : (b : Bool) → eqb n 7 ≡ false → eqb n 8 ≡ false → eqb n 9 ≡ b → Same n line
    at9 true e7 e8 e = subst⁻¹ (λ k. Same k line) (eqb-true n 9 e) refl
    at9 false e7 e8 e = at10 (eqb n 10) e7 e8 e refl

    at8 : (b : Bool) → eqb n 7 ≡ false → eqb n 8 ≡ b → Same n line
    at8 true e7 e = subst⁻¹ (λ k. Same k line) (eqb-true n 8 e) refl
    at8 false e7 e = at9 (eqb n 9) e7 e refl

    at7 : (b : Bool) → eqb n 7 ≡ b → Same n line
    at7 true e = subst⁻¹ (λ k. Same k line) (eqb-true n 7 e) refl
    at7 false e = at8 (eqb n 8) e refl
