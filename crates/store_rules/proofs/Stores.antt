-- A store that isn't wrong is the octets of its sound row, and the octets of a sound row are such a store. Assumes nothing.
use mathlib.Core.Path.{◌≡◌, refl, sym, ap, ◌∙◌}
use mathlib.Core.Bool.{Bool, true, false, cond, not, ◌&&◌, ◌||◌, true≢false, and-eq-true_iff}
use mathlib.Core.List.{List, [], ◌∷◌, ◌++◌}
use Prim.Native.Nat.{ℕ, zero, suc, ◌-◌, ◌*◌, ◌%◌, ◌<◌, ◌≤◌, ◌^◌}
use native.Mathlib.Nat.{sub-zero, suc-sub-suc}
use native.Mathlib.Omega.{arith}
use borrow.Author.Tests.{eqb-true, eqb-false, ne_eqb, eq-eqb, ltb-false, le-ltb, not-true, not-false}
use lib.Dec.{eqb, ltb}
use lib.ListN.{length, length-append, length-replicate}
use Rattle.octets.specs.Number.{Octets}
use Rattle.store_rules.specs.Claim.{StoreRead, StoreWritten}
use Rattle.store_rules.specs.Row.{Record, held, unused, all_unused, used_of, sound_records, store_octets, row_octets, records_from, records_of, size_of, row_of, wrong_size, wrong_store}
use Rattle.octets.proofs.Tests.{or-none}
use Rattle.store_rules.proofs.Rows.{SoundRecord, SoundRow, unused_record, unused_row, held-append}
use Rattle.store_rules.proofs.Written.{AllFit, store-row, store-records, length-row, length-records, records-fit, records-read}

-- ---- records that are sound: the used ones, then unused ones

-- the one unused record
unused-is : (r : Record) → unused r ≡ true → r ≡ unused_record
unused-is r h =
    let p = (and-eq-true_iff (eqb r.cookie 0) (eqb r.time 0)).0 h in
    let a = eqb-true r.cookie 0 p.0 in
    let b = eqb-true r.time 0 p.1 in
    λ i. record { cookie = a i; time = b i }

-- a row of nothing else
pub all-unused-are : (rs : List Record) → all_unused rs ≡ true → rs ≡ unused_row (length rs)
unfolding all_unused
all-unused-are [] h = refl
all-unused-are (r ∷ rs) h =
    let p = (and-eq-true_iff (unused r) (all_unused rs)).0 h in
    let a = unused-is r p.0 in
    let b = all-unused-are rs p.1 in
    λ i. a i ∷ b i

-- a cookie that isn't held isn't held by the used ones
pub held-used : (c : ℕ) (rs : List Record) → held c rs ≡ false → held c (used_of rs) ≡ false
unfolding held used_of
held-used c [] h = refl
held-used c (r ∷ rs) h = go (unused r) (eqb r.cookie c) refl (held-used c rs) h
  where
    go : (u t : Bool) → eqb r.cookie c ≡ t → (held c rs ≡ false → held c (used_of rs) ≡ false) → t || held c rs ≡ false → held c (cond u [] (r ∷ used_of rs)) ≡ false
    go true t q f e = refl
    go false true q f e = absurd (true≢false e)
    go false false q f e = rw q (f e)

-- what sound records are
record Used (rs : List Record) : Type 0 where
  pub parts : rs ≡ used_of rs ++ unused_row (length rs - length (used_of rs))
  pub within : length (used_of rs) ≤ length rs
  pub sound : SoundRow (used_of rs)

-- from an unused record on there are no used ones
used-none : (r : Record) (rs : List Record) → unused r ≡ true → all_unused rs ≡ true → Used (r ∷ rs)
unfolding used_of
used-none r rs u h = record {
  parts = rw (u, sub-zero) (λ i. unused-is r u i ∷ all-unused-are rs h i);
  within = rw u (omega arith);
  sound = rw u tt;
}

-- a used one, and the rest
used-more : (r : Record) (rs : List Record) → unused r ≡ false → r.cookie < 2 ^ 64 → r.time < 2 ^ 64 → eqb r.cookie 0 ≡ false → held r.cookie rs ≡ false → Used rs → Used (r ∷ rs)
unfolding used_of
used-more r rs u fc ft z h w = let l = w.within in record {
  parts = rw (u, suc-sub-suc) (ap (λ (l : List Record). r ∷ l) w.parts);
  within = rw u (omega arith);
  sound = rw u (record { used = eqb-false r.cookie 0 z; cookie = fc; time = ft; once = held-used r.cookie rs h }, w.sound);
}

-- sound records are a sound row and unused ones
used_sound : (rs : List Record) → AllFit rs → sound_records rs ≡ true → Used rs
unfolding sound_records used_of
used_sound [] f h = record { parts = refl; within = omega arith; sound = tt }
used_sound (r ∷ rs) f h = go (unused r) refl (used_sound rs f.2) h
  where
    go : (u : Bool) → unused r ≡ u → (sound_records rs ≡ true → Used rs) → cond u (all_unused rs) (not (eqb r.cookie 0) && not (held r.cookie rs) && sound_records rs) ≡ true → Used (r ∷ rs)
    go true u k e = used-none r rs u e
    go false u k e =
        let p = (and-eq-true_iff (not (eqb r.cookie 0) && not (held r.cookie rs)) (sound_records rs)).0 e in
        let q = (and-eq-true_iff (not (eqb r.cookie 0)) (not (held r.cookie rs))).0 p.0 in
        used-more r rs u f.0 f.1 (not-true _ q.0) (not-true _ q.1) (k p.1)

-- ---- a sound row, with unused records after it

-- unused records are all unused
all-unused : (k : ℕ) → all_unused (unused_row k) ≡ true
unfolding all_unused
all-unused zero = refl
all-unused (suc k) = all-unused k

-- they hold no cookie but 0
pub held-unused : (c k : ℕ) → (c ≡ 0 → ⊥) → held c (unused_row k) ≡ false
unfolding held
held-unused c zero h = refl
held-unused c (suc k) h = rw (ne_eqb 0 c (λ e. h (sym e))) (held-unused c k h)

-- a cookie of the row stands in no unused record
once_more : (r : Record) (row : List Record) (k : ℕ) → SoundRecord r row → held r.cookie (row ++ unused_row k) ≡ false
once_more r row k g = held-append r.cookie row (unused_row k) ∙ rw (g.once, held-unused r.cookie k g.used)

-- the records are sound
padded-sound : (row : List Record) (k : ℕ) → SoundRow row → sound_records (row ++ unused_row k) ≡ true
unfolding sound_records
padded-sound [] zero g = refl
padded-sound [] (suc k) g = all-unused k
padded-sound (r ∷ row) k g = rw (ne_eqb r.cookie 0 g.0.used, once_more r row k g.0, padded-sound row k g.1)

-- the used ones are the row
padded-used : (row : List Record) (k : ℕ) → SoundRow row → used_of (row ++ unused_row k) ≡ row
unfolding used_of
padded-used [] zero g = refl
padded-used [] (suc k) g = refl
padded-used (r ∷ row) k g = rw (ne_eqb r.cookie 0 g.0.used, padded-used row k g.1)

-- their numbers fit
padded-fit : (row : List Record) (k : ℕ) → SoundRow row → AllFit (row ++ unused_row k)
padded-fit [] zero g = tt
padded-fit [] (suc k) g = (omega arith, omega arith, padded-fit [] k tt)
padded-fit (r ∷ row) k g = (g.0.cookie, g.0.time, padded-fit row k g.1)

-- ---- stores

-- s is a store of n records that holds this row
pub record Stores (s : List ℕ) (n : ℕ) (row : List Record) : Type 0 where
  pub content : s ≡ store_octets n row
  pub records : records_of s ≡ row ++ unused_row (n - length row)
  pub sound : SoundRow row
  pub within : length row ≤ n
  pub low : 1 ≤ n
  pub high : n ≤ 64
  pub total : length s ≡ 16 * n

-- a size that isn't wrong
pub right-size : (s : List ℕ) → wrong_size s ≡ false → (1 ≤ size_of s) × (size_of s ≤ 64) × (length s ≡ 16 * size_of s)
right-size s h =
    let p = or-none (ltb (length s) 16 || ltb 1024 (length s)) (not (eqb (length s % 16) 0)) h in
    let q = or-none (ltb (length s) 16) (ltb 1024 (length s)) p.0 in
    let lo = ltb-false (length s) 16 q.0 in
    let hi = ltb-false 1024 (length s) q.1 in
    let m = eqb-true (length s % 16) 0 (not-false _ p.1) in
    (omega arith, omega arith, omega arith)

-- writing a store that was read
pub store-read : (s : List ℕ) → Octets s → wrong_store s ≡ false → Stores s (size_of s) (row_of s)
unfolding wrong_store
store-read s b h =
    let p = or-none (wrong_size s) (not (sound_records (records_of s))) h in
    let z = right-size s p.0 in
    let w = used_sound (records_of s) (records-fit (size_of s) s 0 b) (not-false _ p.1) in
    let k = length-records (size_of s) s 0 in
    let r = w.parts ∙ ap (λ (n : ℕ). row_of s ++ unused_row (n - length (row_of s))) k in
    record {
      content = store-records s b z.2 ∙ ap row_octets r ∙ sym (store-row (size_of s) (row_of s));
      records = r;
      sound = w.sound;
      within = rw k at w.within;
      low = z.0;
      high = z.1;
      total = z.2;
    }

-- the records of a store of n are n
pub length-padded : (n : ℕ) (row : List Record) → length row ≤ n → length (row ++ unused_row (n - length row)) ≡ n
length-padded n row h = length-append row (unused_row (n - length row)) ∙ rw (length-replicate (n - length row) unused_record) (omega arith)

-- its octets are 16 for each
pub length-store : (n : ℕ) (row : List Record) → length row ≤ n → length (store_octets n row) ≡ 16 * n
length-store n row h = ap length (store-row n row) ∙ length-row (row ++ unused_row (n - length row)) ∙ rw (length-padded n row h)

-- and are read as n records
pub size-store : (n : ℕ) (row : List Record) → length row ≤ n → size_of (store_octets n row) ≡ n
size-store n row h = let l = length-store n row h in omega arith

-- reading a store that was written
pub store-written : (n : ℕ) (row : List Record) → SoundRow row → length row ≤ n → 1 ≤ n → n ≤ 64 → Stores (store_octets n row) n row
store-written n row g h lo hi =
    let rs = row ++ unused_row (n - length row) in
    let k = length-padded n row h in
    record {
      content = refl;
      records = ap (λ (m : ℕ). records_from m (store_octets n row) 0) (size-store n row h ∙ sym k) ∙ ap (λ (s : List ℕ). records_from (length rs) s 0) (store-row n row) ∙ records-read [] rs 0 refl (padded-fit row (n - length row) g);
      sound = g;
      within = h;
      low = lo;
      high = hi;
      total = length-store n row h;
    }

module _ {s : List ℕ} {n : ℕ} {row : List Record} (w : Stores s n row) where
  -- it isn't wrong
  pub stores-right : wrong_store s ≡ false
  unfolding wrong_store
  stores-right =
      let lo = w.low in
      let hi = w.high in
      let l = w.total in
      let a = le-ltb (length s) 16 (omega arith) in
      let b = le-ltb 1024 (length s) (omega arith) in
      let c = eq-eqb (length s % 16) 0 (omega arith) in
      let d = ap sound_records w.records ∙ padded-sound row (n - length row) w.sound in
      rw (a, b, c, d)

  -- the row is read in it
  pub stores_row : row_of s ≡ row
  stores_row = ap used_of w.records ∙ padded-used row (n - length row) w.sound

  -- and its size
  pub stores-size : size_of s ≡ n
  stores-size = let l = w.total in omega arith

-- ---- both ways

pub octets-of-row : StoreRead
octets-of-row s o h = let w = store-read s o h in (sym w.content, w.sound)

pub row-of-octets : StoreWritten
row-of-octets n row g h lo hi = let w = store-written n row g h lo hi in (stores-right w, stores-size w, stores_row w)
