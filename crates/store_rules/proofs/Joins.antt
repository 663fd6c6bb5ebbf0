-- A fresh cookie joins a sound row: the row stays sound and within its size, and each cookie that is kept keeps its time. Assumes nothing.
use mathlib.Core.Path.{◌≡◌, refl, sym, ap, ◌∙◌}
use mathlib.Core.Bool.{Bool, true, false, cond, ◌||◌, true≢false, or-false}
use mathlib.Core.Logic.{◌⊎◌, inl, inr}
use mathlib.Core.List.{List, [], ◌∷◌, ◌++◌}
use Prim.Native.Nat.{ℕ, ◌<◌, ◌≤◌, ◌^◌}
use native.Mathlib.Omega.{arith}
use borrow.Author.Tests.{ne_eqb, eqb-true, eqb-false, ltb-true}
use lib.Dec.{eqb, ltb}
use lib.ListN.{length, drop, length-append, length-drop}
use Rattle.store_rules.specs.Row.{Record, held, time_of, joined}
use Rattle.octets.proofs.Tests.{or-none}
use Rattle.store_rules.proofs.Rows.{SoundRow, sound-before, held-append, time-append, time-absent}

abbrev fresh_record : ℕ → List Record
fresh_record c = record { cookie = c; time = 0 } ∷ []

-- what is kept: all, or all but the oldest
abbrev kept : Bool → List Record → List Record
kept b row = cond b row (drop 1 row)

-- it is sound
sound-kept : (b : Bool) (row : List Record) → SoundRow row → SoundRow (kept b row)
sound-kept true row g = g
sound-kept false [] g = tt
sound-kept false (r ∷ row) g = g.1

-- and has no cookie more
held_kept : (b : Bool) (d : ℕ) (row : List Record) → held d row ≡ false → held d (kept b row) ≡ false
unfolding held
held_kept true d row h = h
held_kept false d [] h = refl
held_kept false d (r ∷ row) h = (or-none (eqb r.cookie d) (held d row) h).1

-- a cookie that is kept isn't the oldest's, which stands once
time-kept : (b : Bool) (d : ℕ) (row : List Record) → SoundRow row → held d (kept b row) ≡ true → time_of d (kept b row) ≡ time_of d row
unfolding time_of
time-kept true d row g h = refl
time-kept false d [] g h = refl
time-kept false d (r ∷ row) g h =
    let n : r.cookie ≡ d → ⊥ = λ e. true≢false (sym h ∙ ap (λ (k : ℕ). held k row) (sym e) ∙ g.0.once) in
    sym (rw (ne_eqb r.cookie d n))

-- a fresh record's cookie, and its time
held-fresh : (c d : ℕ) → held d (fresh_record c) ≡ eqb c d
unfolding held
held-fresh c d = or-false (eqb c d)

time-fresh : (c d : ℕ) → time_of d (fresh_record c) ≡ 0
unfolding time_of
time-fresh c d = go (eqb c d)
  where
    go : (b : Bool) → ◌≡◌ {A = ℕ} (cond b 0 0) 0
    go true = refl
    go false = refl

-- at the end of a row
sound-end : (c : ℕ) (row : List Record) → (c ≡ 0 → ⊥) → c < 2 ^ 64 → held c row ≡ false → SoundRow row → SoundRow (row ++ fresh_record c)
unfolding held
sound-end c [] z l h g = (record { used = z; cookie = l; time = omega arith; once = refl }, tt)
sound-end c (r ∷ row) z l h g =
    let p = or-none (eqb r.cookie c) (held c row) h in
    let n = ne_eqb c r.cookie (λ e. eqb-false r.cookie c p.0 (sym e)) in
    let o : held r.cookie (row ++ fresh_record c) ≡ false = held-append r.cookie row (fresh_record c) ∙ rw (g.0.once, held-fresh c r.cookie, n) in
    (sound-before g.0 o, sound-end c row z l p.1 g.1)

-- the row stays within its size
pub length-joined : (n c : ℕ) (row : List Record) → 1 ≤ n → length row ≤ n → length (joined n c row) ≤ n
length-joined n c row h l = go (ltb (length row) n) refl
  where
    go : (b : Bool) → ltb (length row) n ≡ b → length (kept b row ++ fresh_record c) ≤ n
    go true q = let k = ltb-true (length row) n q in rw (length-append row (fresh_record c)) (omega arith)
    go false q = rw (length-append (drop 1 row) (fresh_record c), length-drop 1 row) (omega arith)

module _ (n c : ℕ) (row : List Record) where
  -- and sound
  pub sound-joined : (c ≡ 0 → ⊥) → c < 2 ^ 64 → held c row ≡ false → SoundRow row → SoundRow (joined n c row)
  sound-joined z l h g =
      let b = ltb (length row) n in
      sound-end c (kept b row) z l (held_kept b c row h) (sound-kept b row g)

  -- the cookies of the new row
  held-either : (d : ℕ) → held d (joined n c row) ≡ held d (kept (ltb (length row) n) row) || eqb c d
  held-either d = held-append d (kept (ltb (length row) n) row) (fresh_record c) ∙ rw (held-fresh c d)

  -- a cookie of the new row was in the old one, or is the fresh one
  pub held-joined : (d : ℕ) → held d (joined n c row) ≡ true → (held d row ≡ true) ⊎ (d ≡ c)
  held-joined d h = go (held d row) (eqb c d) refl refl
    where
      go : (x y : Bool) → held d row ≡ x → eqb c d ≡ y → (x ≡ true) ⊎ (d ≡ c)
      go true y p q = inl refl
      go false true p q = inr (sym (eqb-true c d q))
      go false false p q = absurd (true≢false (sym h ∙ held-either d ∙ rw (held_kept (ltb (length row) n) d row p, q)))

  -- the fresh cookie has no time
  pub time-joined-fresh : held c row ≡ false → time_of c (joined n c row) ≡ 0
  time-joined-fresh h =
      let b = ltb (length row) n in
      time-append c (kept b row) (fresh_record c) (time-fresh c c) ∙ time-absent c (kept b row) (held_kept b c row h)

  -- any other of the new row keeps its own
  pub time-joined : (d : ℕ) → SoundRow row → (d ≡ c → ⊥) → held d (joined n c row) ≡ true → time_of d (joined n c row) ≡ time_of d row
  time-joined d g h k =
      let b = ltb (length row) n in
      let e : held d (kept b row) ≡ true = sym (held-either d ∙ rw (ne_eqb c d (λ p. h (sym p))) (or-false (held d (kept b row)))) ∙ k in
      time-append d (kept b row) (fresh_record c) (time-fresh c d) ∙ time-kept b d row g e
