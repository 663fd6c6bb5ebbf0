-- Records that aren't wrong are the row and then unused ones. Assumes nothing.
use mathlib.Core.Path.{◌≡◌, refl, sym, ap, ◌∙◌}
use mathlib.Core.Bool.{Bool, true, false, cond, not, ◌&&◌, and-eq-true_iff, or-false}
use mathlib.Core.List.{List, [], ◌∷◌, ◌++◌}
use Prim.Native.Nat.{ℕ, suc, ◌+◌}
use native.Mathlib.Omega.{arith}
use borrow.Author.Tests.{eqb-true, ne_eqb, not-true, not-false}
use lib.Dec.{eqb}
use lib.ListN.{length}
use Rattle.store_rules.specs.Row.{Record, held, time_of, unused, all_unused, used_of, sound_records}
use Rattle.store_rules.specs.Place.{index_of}
use Rattle.octets.proofs.Tests.{or-none}
use Rattle.store_rules.proofs.Rows.{held-append, time-append}
use Rattle.records.specs.Records.{time_at, wrong_count, wrong_records}

-- an unused record has cookie 0 and time 0
unused-zero : (r : Record) → unused r ≡ true → (r.cookie ≡ 0) × (r.time ≡ 0)
unused-zero r h = let p = (and-eq-true_iff (eqb r.cookie 0) (eqb r.time 0)).0 h in (eqb-true r.cookie 0 p.0, eqb-true r.time 0 p.1)

-- unused records hold no cookie but 0
unused-held : (c : ℕ) (rs : List Record) → (c ≡ 0 → ⊥) → all_unused rs ≡ true → held c rs ≡ false
unfolding held all_unused
unused-held c [] z h = refl
unused-held c (r ∷ rs) z h =
    let p = (and-eq-true_iff (unused r) (all_unused rs)).0 h in
    rw ((unused-zero r p.0).0, ne_eqb 0 c (λ q. z (sym q))) (unused-held c rs z p.1)

-- and have no time
unused-time : (c : ℕ) (rs : List Record) → all_unused rs ≡ true → time_of c rs ≡ 0
unfolding time_of all_unused
unused-time c [] h = refl
unused-time c (r ∷ rs) h =
    let p = (and-eq-true_iff (unused r) (all_unused rs)).0 h in
    rw ((unused-zero r p.0).1, unused-time c rs p.1) (go (eqb r.cookie c))
  where
    go : (b : Bool) → ◌≡◌ {A = ℕ} (cond b 0 0) 0
    go true = refl
    go false = refl

-- what sound records are
pub record Sound (rs : List Record) : Type 0 where
  pub rest : List Record
  pub parts : rs ≡ used_of rs ++ rest
  pub free : all_unused rest ≡ true
  pub used : held 0 (used_of rs) ≡ false

-- one record more in front
sound_more : (r : Record) (rs : List Record) → (sound_records rs ≡ true → Sound rs) → (u : Bool) → unused r ≡ u
    → cond u (all_unused rs) (not (eqb r.cookie 0) && not (held r.cookie rs) && sound_records rs) ≡ true → Sound (r ∷ rs)
unfolding held all_unused used_of
sound_more r rs f true u e = record { rest = r ∷ rs; parts = rw u; free = rw u e; used = rw u }
sound_more r rs f false u e =
    let p = (and-eq-true_iff (not (eqb r.cookie 0) && not (held r.cookie rs)) (sound_records rs)).0 e in
    let z = not-true (eqb r.cookie 0) ((and-eq-true_iff (not (eqb r.cookie 0)) (not (held r.cookie rs))).0 p.0).0 in
    let w = f p.1 in
    record {
      rest = w.rest;
      parts = rw u (ap (λ (l : List Record). r ∷ l) w.parts);
      free = w.free;
      used = rw (u, z) w.used;
    }

sound-parts : (rs : List Record) → sound_records rs ≡ true → Sound rs
unfolding sound_records used_of all_unused held
sound-parts [] h = record { rest = []; parts = refl; free = refl; used = refl }
sound-parts (r ∷ rs) h = sound_more r rs (sound-parts rs) (unused r) refl h

-- so the row holds what they hold, with its time
pub held-row : (c : ℕ) (rs : List Record) → Sound rs → (c ≡ 0 → ⊥) → held c (used_of rs) ≡ held c rs
held-row c rs w z = sym (ap (held c) w.parts ∙ held-append c (used_of rs) w.rest ∙ rw (unused-held c w.rest z w.free) (or-false (held c (used_of rs))))

pub time-row : (c : ℕ) (rs : List Record) → Sound rs → time_of c (used_of rs) ≡ time_of c rs
time-row c rs w = sym (ap (time_of c) w.parts ∙ time-append c (used_of rs) w.rest (unused-time c w.rest w.free))

-- records that aren't wrong
pub right-sound : (rs : List Record) → wrong_records rs ≡ false → Sound rs
unfolding wrong_records
right-sound rs h = sound-parts rs (not-false (sound_records rs) (or-none (wrong_count (length rs)) (not (sound_records rs)) h).1)

-- the time of a cookie stands where the cookie does
pub time-at : (c : ℕ) (rs : List Record) → time_of c rs ≡ time_at rs (index_of c rs)
unfolding time_of index_of
time-at c [] = refl
time-at c (r ∷ rs) = go (eqb r.cookie c) (time-at c rs)
  where
    go : (b : Bool) → time_of c rs ≡ time_at rs (index_of c rs) → cond b r.time (time_of c rs) ≡ time_at (r ∷ rs) (cond b 0 (1 + index_of c rs))
    go true e = refl
    go false e = let o : 1 + index_of c rs ≡ suc (index_of c rs) = omega arith in rw o e
