-- Rows of records: where a cookie stands, and what is before and after it. Assumes nothing.
use mathlib.Core.Path.{◌≡◌, refl, sym, ap, ◌∙◌}
use mathlib.Core.Bool.{Bool, true, false, cond, ◌||◌, true≢false, false≢true}
use mathlib.Core.List.{List, [], ◌∷◌, ◌++◌}
use Prim.Native.Nat.{ℕ, suc, ◌+◌, ◌≤◌}
use native.Mathlib.Nat.{zero-add}
use native.Mathlib.Omega.{arith}
use borrow.Author.Tests.{lt-ltb, eqb-true}
use lib.Dec.{eqb, ltb, leb-suc-suc}
use lib.ListN.{length, replicate}
use Rattle.store_rules.specs.Row.{Record, held, time_of, with_time, without}
pub use Rattle.store_rules.specs.Row.{unused_record}
use Rattle.store_rules.specs.Place.{index_of}
pub use Rattle.store_rules.specs.Claim.{SoundRecord, SoundRow}

-- ---- sound rows

-- the same record before others that lack its cookie too
pub sound-before : {r : Record} {rs rs' : List Record} → SoundRecord r rs → held r.cookie rs' ≡ false → SoundRecord r rs'
sound-before g e = record { used = g.used; cookie = g.cookie; time = g.time; once = e }

abbrev pub unused_row : ℕ → List Record
unused_row k = replicate k unused_record

-- ---- where a cookie stands

-- as the definition counts, and as lists do
one_more : (i : ℕ) → 1 + i ≡ suc i
one_more i = omega arith

-- the place of a cookie among the records, or their end
pub index-most : (c : ℕ) (rs : List Record) → index_of c rs ≤ length rs
unfolding index_of
index-most c [] = omega arith
index-most c (r ∷ rs) = go (eqb r.cookie c) (index-most c rs)
  where
    go : (b : Bool) → index_of c rs ≤ length rs → cond b 0 (1 + index_of c rs) ≤ suc (length rs)
    go true h = omega arith
    go false h = omega arith

-- a cookie is held where its place is one of the row
pub held-index : (c : ℕ) (rs : List Record) → held c rs ≡ ltb (index_of c rs) (length rs)
unfolding held index_of
held-index c [] = refl
held-index c (r ∷ rs) = go (eqb r.cookie c) (held-index c rs)
  where
    go : (b : Bool) → held c rs ≡ ltb (index_of c rs) (length rs) → b || held c rs ≡ ltb (cond b 0 (1 + index_of c rs)) (suc (length rs))
    go true e = sym (lt-ltb 0 (suc (length rs)) (omega arith))
    go false e = e ∙ sym (rw one_more (leb-suc-suc (suc (index_of c rs)) (length rs)))

-- a row, parted at the first record with a cookie
pub record Parted (c : ℕ) (rs : List Record) : Type 0 where
  pub before : List Record
  pub found : Record
  pub after : List Record
  pub whole : rs ≡ before ++ (found ∷ after)
  pub index : index_of c rs ≡ length before
  pub its-cookie : found.cookie ≡ c
  pub its-time : time_of c rs ≡ found.time
  pub removed : without c rs ≡ before ++ after
  pub changed : (t : ℕ) → with_time c t rs ≡ before ++ (record { cookie = c; time = t } ∷ after)

-- one record more in front
part-more : (c : ℕ) (r : Record) (rs : List Record) → (held c rs ≡ true → Parted c rs) → (b : Bool) → eqb r.cookie c ≡ b → b || held c rs ≡ true → Parted c (r ∷ rs)
unfolding index_of time_of without with_time
part-more c r rs f true q h = record {
  before = [];
  found = r;
  after = rs;
  whole = refl;
  index = rw q;
  its-cookie = eqb-true _ _ q;
  its-time = rw q;
  removed = rw q;
  changed = λ t. rw q;
}
part-more c r rs f false q h = let w = f h in record {
  before = r ∷ w.before;
  found = w.found;
  after = w.after;
  whole = ap (λ (l : List Record). r ∷ l) w.whole;
  index = rw (q, w.index) (one_more _);
  its-cookie = w.its-cookie;
  its-time = rw q w.its-time;
  removed = rw q (ap (λ (l : List Record). r ∷ l) w.removed);
  changed = λ t. rw q (ap (λ (l : List Record). r ∷ l) (w.changed t));
}

-- a cookie that is held parts its row
pub part-row : (c : ℕ) (rs : List Record) → held c rs ≡ true → Parted c rs
unfolding held
part-row c [] h = absurd (false≢true h)
part-row c (r ∷ rs) h = part-more c r rs (part-row c rs) (eqb r.cookie c) refl h

-- ---- where it doesn't stand

-- a cookie that isn't held has no time
pub time-absent : (c : ℕ) (rs : List Record) → held c rs ≡ false → time_of c rs ≡ 0
unfolding held time_of
time-absent c [] h = refl
time-absent c (r ∷ rs) h = go (eqb r.cookie c) (time-absent c rs) h
  where
    go : (b : Bool) → (held c rs ≡ false → time_of c rs ≡ 0) → b || held c rs ≡ false → cond b r.time (time_of c rs) ≡ 0
    go true f e = absurd (true≢false e)
    go false f e = f e

-- so a cookie with a time is held
pub time-held : (c : ℕ) (rs : List Record) → (time_of c rs ≡ 0 → ⊥) → held c rs ≡ true
time-held c rs h = go (held c rs) refl
  where
    go : (b : Bool) → held c rs ≡ b → b ≡ true
    go true e = refl
    go false e = absurd (h (time-absent c rs e))

-- ---- one row after another

-- a cookie is held by one of the two
pub held-append : (c : ℕ) (a b : List Record) → held c (a ++ b) ≡ held c a || held c b
unfolding held
held-append c [] b = refl
held-append c (r ∷ a) b = go (eqb r.cookie c) (held-append c a b)
  where
    go : (t : Bool) → held c (a ++ b) ≡ held c a || held c b → t || held c (a ++ b) ≡ (t || held c a) || held c b
    go true e = refl
    go false e = e

-- a cookie of the first row stands there
pub index-append : (c : ℕ) (a b : List Record) → held c a ≡ true → index_of c (a ++ b) ≡ index_of c a
unfolding held index_of
index-append c [] b h = absurd (false≢true h)
index-append c (r ∷ a) b h = go (eqb r.cookie c) (index-append c a b) h
  where
    go : (t : Bool) → (held c a ≡ true → index_of c (a ++ b) ≡ index_of c a) → t || held c a ≡ true → cond t 0 (1 + index_of c (a ++ b)) ≡ cond t 0 (1 + index_of c a)
    go true f e = refl
    go false f e = ap (λ (i : ℕ). 1 + i) (f e)

-- any other is looked for in the second
pub index-past : (c : ℕ) (a b : List Record) → held c a ≡ false → index_of c (a ++ b) ≡ length a + index_of c b
unfolding held index_of
index-past c [] b h = sym (zero-add _)
index-past c (r ∷ a) b h = go (eqb r.cookie c) (index-past c a b) h
  where
    go : (t : Bool) → (held c a ≡ false → index_of c (a ++ b) ≡ length a + index_of c b) → t || held c a ≡ false → cond t 0 (1 + index_of c (a ++ b)) ≡ suc (length a) + index_of c b
    go true f e = absurd (true≢false e)
    go false f e = let q = f e in omega arith

-- where the second gives no time
pub time-append : (c : ℕ) (a b : List Record) → time_of c b ≡ 0 → time_of c (a ++ b) ≡ time_of c a
unfolding time_of
time-append c [] b z = z
time-append c (r ∷ a) b z = ap (cond (eqb r.cookie c) r.time) (time-append c a b z)
