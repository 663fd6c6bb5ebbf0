-- A number's call leaves what its number leaves. Assumes nothing.
use mathlib.Core.Path.{◌≡◌, refl, subst⁻¹}
use mathlib.Core.Bool.{Bool, true, false}
use mathlib.Core.List.{List}
use Prim.Native.Nat.{ℕ}
use borrow.Author.Tests.{eqb-true}
use lib.Dec.{eqb}
use Rattle.actions.specs.Kept.{store_after, kept_after}
use Rattle.actions.specs.Rows.{row_number, action_for}

abbrev pub Same : ℕ → List ℕ → List ℕ → Type 0
Same n line kept = kept_after (row_number (action_for n)) line kept ≡ kept_after n line kept

pub same-kept : (n : ℕ) (line kept : List ℕ) → Same n line kept
unfolding kept_after store_after
same-kept n line kept = at15 (eqb n 15) refl
  where
    at18 : (b : Bool) → eqb n 15 ≡ false → eqb n 16 ≡ false → eqb n 17 ≡ false → eqb n 18 ≡ b → Same n line kept
    at18 true e15 e16 e17 e = subst⁻¹ (λ k. Same k line kept) (eqb-true n 18 e) refl
    at18 false e15 e16 e17 e = rw (e15, e16, e17, e) refl

    at17 : (b : Bool) → eqb n 15 ≡ false → eqb n 16 ≡ false → eqb n 17 ≡ b → Same n line kept
    at17 true e15 e16 e = subst⁻¹ (λ k. Same k line kept) (eqb-true n 17 e) refl
    at17 false e15 e16 e = at18 (eqb n 18) e15 e16 e refl

    at16 : (b : Bool) → eqb n 15 ≡ false → eqb n 16 ≡ b → Same n line kept
    at16 true e15 e = subst⁻¹ (λ k. Same k line kept) (eqb-true n 16 e) refl
    at16 false e15 e = at17 (eqb n 17) e15 e refl

    at15 : (b : Bool) → eqb n 15 ≡ b → Same n line kept
    at15 true e = subst⁻¹ (λ k. Same k line kept) (eqb-true n 15 e) refl
    at15 false e = at16 (eqb n 16) e refl
