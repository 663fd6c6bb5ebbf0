-- A record leaves a sound row, or has its time reported: the row stays sound, and each other cookie keeps its time. Assumes nothing.
use mathlib.Core.Path.{◌≡◌, refl, sym, ap, ◌∙◌}
use mathlib.Core.Bool.{Bool, true, false, cond, ◌||◌, false≢true}
use mathlib.Core.List.{List, [], ◌∷◌}
use Prim.Native.Nat.{ℕ, suc, ◌<◌, ◌≤◌, ◌^◌}
use native.Mathlib.Omega.{arith}
use borrow.Author.Tests.{eq-eqb, ne_eqb, eqb-true, eqb-false}
use lib.Dec.{eqb}
use lib.ListN.{length}
use Rattle.store_rules.specs.Row.{Record, held, time_of, with_time, without}
use Rattle.octets.proofs.Tests.{or-none}
use Rattle.store_rules.proofs.Rows.{SoundRow, sound-before}

-- a record with cookie c isn't that of another
other : (r : Record) (c d : ℕ) → eqb r.cookie c ≡ true → (d ≡ c → ⊥) → eqb r.cookie d ≡ false
other r c d q h = ne_eqb r.cookie d (λ p. h (sym p ∙ eqb-true r.cookie c q))

-- ---- a record leaves

-- a row grows by no removal
pub length_without : (c : ℕ) (row : List Record) → length (without c row) ≤ length row
unfolding without
length_without c [] = omega arith
length_without c (r ∷ row) = go (eqb r.cookie c) (length_without c row)
  where
    go : (b : Bool) → length (without c row) ≤ length row → length (cond b row (r ∷ without c row)) ≤ suc (length row)
    go true l = omega arith
    go false l = omega arith

-- each other cookie stays
pub held-without : (c d : ℕ) (row : List Record) → (d ≡ c → ⊥) → held d (without c row) ≡ held d row
unfolding held without
held-without c d [] h = refl
held-without c d (r ∷ row) h = go (eqb r.cookie c) refl (held-without c d row h)
  where
    go : (b : Bool) → eqb r.cookie c ≡ b → held d (without c row) ≡ held d row → held d (cond b row (r ∷ without c row)) ≡ eqb r.cookie d || held d row
    go true q e = sym (rw (other r c d q h))
    go false q e = ap (λ (b : Bool). eqb r.cookie d || b) e

-- with its time
pub time-without : (c d : ℕ) (row : List Record) → (d ≡ c → ⊥) → time_of d (without c row) ≡ time_of d row
unfolding time_of without
time-without c d [] h = refl
time-without c d (r ∷ row) h = go (eqb r.cookie c) refl (time-without c d row h)
  where
    go : (b : Bool) → eqb r.cookie c ≡ b → time_of d (without c row) ≡ time_of d row → time_of d (cond b row (r ∷ without c row)) ≡ cond (eqb r.cookie d) r.time (time_of d row)
    go true q e = sym (rw (other r c d q h))
    go false q e = ap (cond (eqb r.cookie d) r.time) e

-- a cookie stands once, so it is gone
pub without_gone : (c : ℕ) (row : List Record) → SoundRow row → held c (without c row) ≡ false
unfolding held without
without_gone c [] g = refl
without_gone c (r ∷ row) g = go (eqb r.cookie c) refl (without_gone c row g.1)
  where
    go : (b : Bool) → eqb r.cookie c ≡ b → held c (without c row) ≡ false → held c (cond b row (r ∷ without c row)) ≡ false
    go true q e = ap (λ (d : ℕ). held d row) (sym (eqb-true r.cookie c q)) ∙ g.0.once
    go false q e = rw q e

-- what wasn't held isn't
pub without-absent : (c d : ℕ) (row : List Record) → held d row ≡ false → held d (without c row) ≡ false
unfolding held without
without-absent c d [] h = refl
without-absent c d (r ∷ row) h = go (eqb r.cookie c) (or-none (eqb r.cookie d) (held d row) h) (without-absent c d row)
  where
    go : (b : Bool) → (eqb r.cookie d ≡ false) × (held d row ≡ false) → (held d row ≡ false → held d (without c row) ≡ false) → held d (cond b row (r ∷ without c row)) ≡ false
    go true p f = p.1
    go false p f = rw p.0 (f p.1)

-- the row stays sound
pub sound-without : (c : ℕ) (row : List Record) → SoundRow row → SoundRow (without c row)
unfolding without
sound-without c [] g = tt
sound-without c (r ∷ row) g = go (eqb r.cookie c) refl (sound-without c row g.1)
  where
    go : (b : Bool) → eqb r.cookie c ≡ b → SoundRow (without c row) → SoundRow (cond b row (r ∷ without c row))
    go true q k = g.1
    go false q k = (sound-before g.0 (held-without c r.cookie row (eqb-false r.cookie c q) ∙ g.0.once), k)

-- ---- a time is reported

-- as many records
pub length-reported : (c t : ℕ) (row : List Record) → length (with_time c t row) ≡ length row
unfolding with_time
length-reported c t [] = refl
length-reported c t (r ∷ row) = go (eqb r.cookie c) (length-reported c t row)
  where
    go : (b : Bool) → length (with_time c t row) ≡ length row → length (cond b (record { cookie = c; time = t } ∷ row) (r ∷ with_time c t row)) ≡ suc (length row)
    go true e = refl
    go false e = ap suc e

-- of the same cookies
pub held-reported : (c t d : ℕ) (row : List Record) → held d (with_time c t row) ≡ held d row
unfolding held with_time
held-reported c t d [] = refl
held-reported c t d (r ∷ row) = go (eqb r.cookie c) refl (held-reported c t d row)
  where
    go : (b : Bool) → eqb r.cookie c ≡ b → held d (with_time c t row) ≡ held d row → held d (cond b (record { cookie = c; time = t } ∷ row) (r ∷ with_time c t row)) ≡ eqb r.cookie d || held d row
    go true q e = ap (λ (k : ℕ). eqb k d || held d row) (sym (eqb-true r.cookie c q))
    go false q e = ap (λ (b : Bool). eqb r.cookie d || b) e

-- the cookie has the time
pub time-reported : (c t : ℕ) (row : List Record) → held c row ≡ true → time_of c (with_time c t row) ≡ t
unfolding held time_of with_time
time-reported c t [] h = absurd (false≢true h)
time-reported c t (r ∷ row) h = go (eqb r.cookie c) refl (time-reported c t row) h
  where
    go : (b : Bool) → eqb r.cookie c ≡ b → (held c row ≡ true → time_of c (with_time c t row) ≡ t) → b || held c row ≡ true → time_of c (cond b (record { cookie = c; time = t } ∷ row) (r ∷ with_time c t row)) ≡ t
    go true q f e = rw (eq-eqb c c refl)
    go false q f e = rw q (f e)

-- each other has its own
pub time-reported-other : (c t d : ℕ) (row : List Record) → (d ≡ c → ⊥) → time_of d (with_time c t row) ≡ time_of d row
unfolding time_of with_time
time-reported-other c t d [] h = refl
time-reported-other c t d (r ∷ row) h = go (eqb r.cookie c) refl (time-reported-other c t d row h)
  where
    go : (b : Bool) → eqb r.cookie c ≡ b → time_of d (with_time c t row) ≡ time_of d row → time_of d (cond b (record { cookie = c; time = t } ∷ row) (r ∷ with_time c t row)) ≡ cond (eqb r.cookie d) r.time (time_of d row)
    go true q e = rw (ne_eqb c d (λ p. h (sym p)), other r c d q h)
    go false q e = ap (cond (eqb r.cookie d) r.time) e

-- the row stays sound
pub sound-reported : (c t : ℕ) (row : List Record) → t < 2 ^ 64 → SoundRow row → SoundRow (with_time c t row)
unfolding with_time
sound-reported c t [] h g = tt
sound-reported c t (r ∷ row) h g = go (eqb r.cookie c) refl (sound-reported c t row h g.1)
  where
    go : (b : Bool) → eqb r.cookie c ≡ b → SoundRow (with_time c t row) → SoundRow (cond b (record { cookie = c; time = t } ∷ row) (r ∷ with_time c t row))
    go true q k =
        let e = eqb-true r.cookie c q in (
          record {
            used = λ z. g.0.used (e ∙ z);
            cookie = rw e at g.0.cookie;
            time = h;
            once = ap (λ (d : ℕ). held d row) (sym e) ∙ g.0.once;
          },
          g.1,
        )
    go false q k = (sound-before g.0 (held-reported c t r.cookie row ∙ g.0.once), k)
