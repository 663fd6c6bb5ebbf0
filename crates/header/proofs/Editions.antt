-- What the edition that a number names says of the number. Assumes nothing.
use mathlib.Core.Path.{◌≡◌, refl}
use mathlib.Core.Bool.{Bool, true, false, cond}
use Prim.Native.Nat.{ℕ}
use Rattle.std.specs.Prelude.{Result, Ok, Err}
use Rattle.header.specs.Edition.{is_edition, edition_of, named_edition}
use Rattle.header.specs.declared.edition.Edition.{Edition}

-- what it chooses by the number, where the number names an edition
pub by_edition : {A : Type 0} (f : Edition → A) (other : A) (n : ℕ) (e : Edition) → Ok e ≡ named_edition n → f e ≡ cond (is_edition n) (f (edition_of n)) other
by_edition {A} f other n e h = go (is_edition n) h
  where
    go : (b : Bool) → ◌≡◌ {A = Result Edition ℕ} (Ok e) (cond b (Ok (edition_of n)) (Err 6)) → f e ≡ cond b (f (edition_of n)) other
    go true k = let q : e ≡ edition_of n = cc in cc
    go false k = cc

-- and where it names none
pub by_none : {A : Type 0} (x y : A) (n r : ℕ) → Err r ≡ named_edition n → (r ≡ 6) × (cond (is_edition n) x y ≡ y)
by_none {A} x y n r h = go (is_edition n) h
  where
    go : (b : Bool) → Err r ≡ cond b (Ok (edition_of n)) (Err 6) → (r ≡ 6) × (cond b x y ≡ y)
    go true k = cc
    go false k = (cc, refl)
