-- The octets of records in a row, and the records that octets spell. Assumes nothing.
use mathlib.Core.Path.{◌≡◌, refl, sym, ap, ◌∙◌}
use mathlib.Core.List.{List, [], ◌∷◌, ◌++◌, append_assoc}
use Prim.Native.Nat.{ℕ, zero, suc, ◌+◌, ◌-◌, ◌*◌, ◌<◌, ◌≤◌, ◌^◌}
use native.Mathlib.Omega.{arith}
use lib.ListN.{length, take, drop, replicate, length-append, replicate-append-replicate}
use lib.Seq.{take-add, drop-drop, take_all}
use Rattle.octets.specs.Number.{Octets, num, octets}
use Rattle.octets.proofs.Numbers.{length-octets, num-at, octets-num, num-lt}
use Rattle.store_rules.specs.Row.{Record, record_octets, row_octets, store_octets, records_from, records_of, size_of}
use Rattle.store_rules.proofs.Rows.{unused_row}

-- lengths
pub length-record : (r : Record) → length (record_octets r) ≡ 16
length-record r = length-append (octets 8 r.cookie) (octets 8 r.time) ∙ rw (length-octets 8 r.cookie, length-octets 8 r.time)

pub length-row : (rs : List Record) → length (row_octets rs) ≡ 16 * length rs
unfolding row_octets
length-row [] = refl
length-row (r ∷ rs) = length-append (record_octets r) (row_octets rs) ∙ rw (length-record r, length-row rs) (omega arith)

-- one row after another
pub row-append : (a b : List Record) → row_octets (a ++ b) ≡ row_octets a ++ row_octets b
unfolding row_octets
row-append [] b = refl
row-append (r ∷ a) b = rw (row-append a b) (sym (append_assoc (record_octets r) (row_octets a) (row_octets b)))

-- unused records are zeros
row-unused : (k : ℕ) → row_octets (unused_row k) ≡ replicate (16 * k) 0
unfolding row_octets octets
row-unused zero = refl
row-unused (suc k) =
    let e : 16 * suc k ≡ 16 + 16 * k = omega arith in
    rw e (ap (λ (l : List ℕ). replicate 16 0 ++ l) (row-unused k) ∙ replicate-append-replicate 16 (16 * k) 0)

-- a store is its row and then unused records
pub store-row : (n : ℕ) (row : List Record) → store_octets n row ≡ row_octets (row ++ unused_row (n - length row))
unfolding store_octets
store-row n row = sym (row-append row (unused_row (n - length row)) ∙ rw (row-unused (n - length row)))

-- ---- reading what was written

-- the numbers of each record fit their octets
abbrev pub AllFit : List Record → Type 0
AllFit [] = Unit {0}
AllFit (r ∷ rs) = (r.cookie < 2 ^ 64) × (r.time < 2 ^ 64) × AllFit rs

-- records after p are read back
pub records-read : (p : List ℕ) (rs : List Record) (at : ℕ) → length p ≡ at → AllFit rs → records_from (length rs) (p ++ row_octets rs) at ≡ rs
unfolding records_from row_octets
records-read p [] at h f = refl
records-read p (r ∷ rs) at h f =
    let x = octets 8 r.cookie in
    let y = octets 8 r.time in
    let z = row_octets rs in
    let e : p ++ ((x ++ y) ++ z) ≡ p ++ (x ++ (y ++ z)) = ap (λ (l : List ℕ). p ++ l) (append_assoc x y z) in
    let e₂ : p ++ ((x ++ y) ++ z) ≡ (p ++ x) ++ (y ++ z) = e ∙ sym (append_assoc p x (y ++ z)) in
    let e₃ : p ++ ((x ++ y) ++ z) ≡ (p ++ (x ++ y)) ++ z = sym (append_assoc p (x ++ y) z) in
    let l : length (p ++ x) ≡ at + 8 = length-append p x ∙ rw (h, length-octets 8 r.cookie) in
    let l₂ : length (p ++ (x ++ y)) ≡ at + 16 = length-append p (x ++ y) ∙ rw (h, length-record r) in
    let a = ap (λ (l : List ℕ). num l at 8) e ∙ num-at p (y ++ z) at 8 r.cookie h f.0 in
    let b = ap (λ (l : List ℕ). num l (at + 8) 8) e₂ ∙ num-at (p ++ x) z (at + 8) 8 r.time l f.1 in
    let t = ap (λ (l : List ℕ). records_from (length rs) l (at + 16)) e₃ ∙ records-read (p ++ (x ++ y)) rs (at + 16) l₂ f.2 in
    λ i. record { cookie = a i; time = b i } ∷ t i

-- ---- writing what was read

-- n records are read
pub length-records : (n : ℕ) (s : List ℕ) (at : ℕ) → length (records_from n s at) ≡ n
unfolding records_from
length-records zero s at = refl
length-records (suc n) s at = ap suc (length-records n s (at + 16))

-- what octets spell fits them
pub records-fit : (n : ℕ) (s : List ℕ) (at : ℕ) → Octets s → AllFit (records_from n s at)
unfolding records_from
records-fit zero s at b = tt
records-fit (suc n) s at b = (num-lt s at 8 b, num-lt s (at + 8) 8 b, records-fit n s (at + 16) b)

-- and gives the octets back
pub records-written : (n : ℕ) (s : List ℕ) (at : ℕ) → Octets s → at + 16 * n ≤ length s → row_octets (records_from n s at) ≡ take (16 * n) (drop at s)
unfolding records_from row_octets
records-written zero s at b h = refl
records-written (suc n) s at b h =
    let e : 16 * suc n ≡ 8 + 8 + 16 * n = omega arith in
    let x = octets-num s at 8 b (omega arith) in
    let y = octets-num s (at + 8) 8 b (omega arith) in
    let z = records-written n s (at + 16) b (omega arith) in
    rw (x, y, z, e, take-add (8 + 8) (16 * n) (drop at s), take-add 8 8 (drop at s), drop-drop 8 at s, drop-drop 16 at s)

-- the octets of a whole number of records are those of its records
pub store-records : (s : List ℕ) → Octets s → length s ≡ 16 * size_of s → s ≡ row_octets (records_of s)
store-records s b h = sym (records-written (size_of s) s 0 b (omega arith) ∙ take_all (16 * size_of s) s (omega arith))
