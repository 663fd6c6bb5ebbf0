-- Records and their octets: what is read in the ones is read in the others. Assumes nothing.
use mathlib.Core.Path.{◌≡◌, refl, sym, ap, ◌∙◌}
use mathlib.Core.Bool.{Bool, true, false, or-false}
use mathlib.Core.List.{List, [], ◌∷◌, ◌++◌}
use Prim.Native.Nat.{ℕ, zero, suc, ◌+◌, ◌*◌, ◌%◌, ◌<◌}
use native.Mathlib.Omega.{arith}
use borrow.Author.Tests.{ltb-true, ltb-false, eq-eqb, le-leb, lt-leb}
use lib.Dec.{ltb}
use lib.ListN.{length, get_or, set, take, drop, get_or-eq_default}
use lib.Seq.{split_at, set_at, length-take-le}
use Rattle.octets.specs.Number.{Octets, num, octets, get_at, put_at}
use Rattle.octets.proofs.Written.{both-octets, number-octets}
use Rattle.store_rules.specs.Row.{Record, used_of, row_octets, records_from, records_of, size_of, row_of, wrong_size, wrong_store}
use Rattle.store_rules.specs.Place.{index_of, place_of}
use Rattle.store_rules.proofs.Written.{AllFit, length-row, records-read}
use Rattle.store_rules.proofs.Places.{put-cookie}
use Rattle.store_rules.proofs.Changed.{test-16}
use Rattle.records.specs.Records.{unused_record, time_at, Fit, wrong_count, wrong_records}
use Rattle.records.proofs.Joining.{with_cookie}

-- ---- sizes

pub size_is : (rs : List Record) → size_of (row_octets rs) ≡ length rs
size_is rs = omega (arith, length-row rs)

pub count-is : (rs : List Record) → wrong_size (row_octets rs) ≡ wrong_count (length rs)
count-is rs =
    let n = length rs in
    let m : 16 * n % 16 ≡ 0 = omega arith in
    rw (length-row rs, eq-eqb (16 * n % 16) 0 m, ← test-16 n 1, ← test-16 64 n) (or-false (wrong_count n))

-- ---- what octets spell

-- the octets of records are octets
pub row-octets : (rs : List Record) → Octets (row_octets rs)
unfolding row_octets
row-octets [] = λ i. omega arith
row-octets (r ∷ rs) = both-octets (octets 8 r.cookie ++ octets 8 r.time) (row_octets rs) (both-octets (octets 8 r.cookie) (octets 8 r.time) (number-octets 8 r.cookie) (number-octets 8 r.time)) (row-octets rs)

-- numbers that fit, as `store` says it
fit_all : (rs : List Record) → Fit rs → AllFit rs
fit_all [] f = tt
fit_all (r ∷ rs) f = (f.0, f.1, fit_all rs f.2)

module _ (rs : List Record) (f : Fit rs) where
  -- they are read back
  pub read_back : records_of (row_octets rs) ≡ rs
  read_back = rw (size_is rs) (records-read [] rs 0 refl (fit_all rs f))

  pub row_is : row_of (row_octets rs) ≡ used_of rs
  row_is = ap used_of read_back

  pub wrong-is : wrong_store (row_octets rs) ≡ wrong_records rs
  unfolding wrong_store wrong_records
  wrong-is = rw (count-is rs, read_back)

  pub place_is : (c : ℕ) → place_of (row_octets rs) c ≡ 16 * index_of c rs
  unfolding place_of
  place_is c = rw read_back

-- record i of those that octets spell
record-at : (n : ℕ) (s : List ℕ) (at i : ℕ) → i < n → time_at (records_from n s at) i ≡ num s (at + 16 * i + 8) 8
unfolding records_from
record-at zero s at i h = absurd (omega (arith, h))
record-at (suc n) s at zero h = ap (λ (k : ℕ). num s k 8) (omega arith)
record-at (suc n) s at (suc i) h = record-at n s (at + 16) i (omega (arith, h)) ∙ ap (λ (k : ℕ). num s k 8) (omega arith)

-- its time; past the end 0
pub time-is : (rs : List Record) → Fit rs → (at : ℕ) → get_at (row_octets rs) (16 * at + 8) 8 ≡ time_at rs at
time-is rs f at = go (ltb at (length rs)) refl
  where
    s : List ℕ
    s = row_octets rs

    go : (b : Bool) → ltb at (length rs) ≡ b → get_at (row_octets rs) (16 * at + 8) 8 ≡ (get_or rs at unused_record).time
    go true e =
        let l = ltb-true at (length rs) e in
        let z : 0 + 16 * at + 8 ≡ 16 * at + 8 = omega arith in
        rw (le-leb (16 * at + 8 + 8) (length (row_octets rs)) (omega (arith, length-row rs)))
        (sym (ap (λ (l : List Record). time_at l at) (sym (read_back rs f)) ∙ record-at (size_of (row_octets rs)) (row_octets rs) 0 at (rw (size_is rs) l) ∙ ap (λ (k : ℕ). num (row_octets rs) k 8) z))
    go false e =
        let l = ltb-false at (length rs) e in
        rw (lt-leb (16 * at + 8 + 8) (length (row_octets rs)) (omega (arith, length-row rs)), get_or-eq_default rs unused_record {n = at} l)

-- ---- a cookie is written

pub put-at : (rs : List Record) (i c : ℕ) → i < length rs → put_at (row_octets rs) (16 * i) 8 c ≡ row_octets (with_cookie rs i c)
put-at rs i c h =
    let a = take i rs in
    let b = drop (suc i) rs in
    let r = get_or rs i unused_record in
    let e : rs ≡ a ++ (r ∷ b) = split_at rs i unused_record h in
    let k : length a ≡ i = length-take-le i rs (omega arith) in
    ap (λ (l : List Record). put_at (row_octets l) (16 * i) 8 c) e
    ∙ ap (λ (j : ℕ). put_at (row_octets (a ++ (r ∷ b))) (16 * j) 8 c) (sym k)
    ∙ put-cookie a r b c
    ∙ ap row_octets (sym (set_at a r b (record { cookie = c; time = r.time }) i k))
    ∙ ap (λ (l : List Record). row_octets (set l i (record { cookie = c; time = r.time }))) (sym e)
