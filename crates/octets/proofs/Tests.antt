-- By the outcome of a test. Assumes nothing.
use mathlib.Core.Path.{◌≡◌, refl, sym}
use mathlib.Core.Bool.{Bool, true, false, cond, not}
-- neither of two tests holds
pub use Rattle.std.proofs.lemmas.Bool.{or_parts as or-none}

-- what the test chooses
pub by-test : {X : Type 0} (P : X → Type 0) (b : Bool) {x y : X} → (b ≡ true → P x) → (b ≡ false → P y) → P (cond b x y)
by-test P true f g = f refl
by-test P false f g = g refl

-- a statement that does not speak of it
pub by-outcome : {P : Type 0} (b : Bool) → (b ≡ true → P) → (b ≡ false → P) → P
by-outcome true f g = f refl
by-outcome false f g = g refl

-- where a test chooses between another and its opposite, and that holds, they are one
pub same_test : (a b : Bool) → cond a b (not b) ≡ true → a ≡ b
same_test true b e = sym e
same_test false true e = e
same_test false false e = refl
