-- A walk over the records of a store, record by record: what is left from a place on. Assumes nothing.
use mathlib.Core.Path.{◌≡◌, refl, ap, ◌∙◌}
use mathlib.Core.Bool.{Bool, true, false, cond, not, ◌&&◌, ◌||◌}
use mathlib.Core.List.{List, [], ◌∷◌, ◌++◌}
use Prim.Native.Nat.{ℕ, zero, suc, ◌+◌, ◌-◌, ◌*◌, ◌/◌, ◌<◌, ◌≤◌}
use native.Mathlib.Nat.{add-zero, sub-zero, add_assoc}
use native.Mathlib.Omega.{arith}
use borrow.Author.Tests.{eq-eqb, ne_eqb}
use lib.Dec.{eqb}
use lib.ListN.{length, drop, length-drop, length-append}
use lib.Seq.{drop_at}
use Rattle.octets.specs.Number.{num}
use Rattle.octets.proofs.Numbers.{num-left, num-drop}
use Rattle.store_rules.specs.Row.{Record, held, records_from, records_of, all_unused, sound_records, wrong_size, wrong_store}
use Rattle.store_rules.specs.Place.{index_of, place_of}

-- the records from a place on
abbrev pub rest : List ℕ → ℕ → List Record
rest s at = records_from ((length s - at) / 16) s at

abbrev pub record_at : List ℕ → ℕ → Record
record_at s at = record { cookie = num s at 8; time = num s (at + 8) 8 }

-- one record, and the rest
pub rest-next : (s : List ℕ) (at : ℕ) → at + 16 ≤ length s → rest s at ≡ record_at s at ∷ rest s (at + 16)
unfolding records_from
rest-next s at h = let e : (length s - at) / 16 ≡ suc ((length s - (at + 16)) / 16) = omega arith in rw e

-- no whole record is left
pub rest_end : (s : List ℕ) (at : ℕ) → length s < at + 16 → rest s at ≡ []
unfolding records_from
rest_end s at h = let e : (length s - at) / 16 ≡ 0 = omega arith in rw e

-- ---- the same with the octets that are left

records-drop : (n : ℕ) (s : List ℕ) (k at : ℕ) → records_from n (drop k s) at ≡ records_from n s (k + at)
unfolding records_from
records-drop zero s k at = refl
records-drop (suc n) s k at = rw (num-drop s k at 8, num-drop s k (at + 8) 8, records-drop n s k (at + 16), add_assoc k at 8, add_assoc k at 16)

pub of_rest : (s : List ℕ) (k : ℕ) → records_of (drop k s) ≡ rest s k
of_rest s k = rw (length-drop k s, records-drop ((length s - k) / 16) s k 0, add-zero k)

-- one record off the front
pub chunk_next : (x y : List ℕ) → length x ≡ 16 → records_of (x ++ y) ≡ record_at x 0 ∷ records_of y
chunk_next x y h =
    let l = x ++ y in
    let k : length l ≡ 16 + length y = length-append x y ∙ rw h in
    let c : num l 0 8 ≡ num x 0 8 = num-left x y 0 8 (omega arith) in
    let t : num l 8 8 ≡ num x 8 8 = num-left x y 8 8 (omega arith) in
    let z : records_of l ≡ rest l 0 = rw (sub-zero (length l)) in
    z ∙ rest-next l 0 (omega arith) ∙ rw (c, t, ← of_rest l 16, drop_at x y 16 h)

-- no whole record is left
pub chunk_end : (l : List ℕ) → length l < 16 → records_of l ≡ []
chunk_end l h = let z : records_of l ≡ rest l 0 = rw (sub-zero (length l)) in z ∙ rest_end l 0 (omega arith)

-- ---- the search for a cookie

module _ (c : ℕ) (l x y : List ℕ) (e : l ≡ x ++ y) (h : length x ≡ 16) where
  -- the record in front has the cookie
  pub place_here : num x 0 8 ≡ c → index_of c (records_of l) ≡ 0
  unfolding index_of
  place_here q = ap (λ (k : List ℕ). index_of c (records_of k)) e ∙ ap (index_of c) (chunk_next x y h) ∙ rw (eq-eqb (num x 0 8) c q)

  -- it hasn't
  pub place_next : (num x 0 8 ≡ c → ⊥) → index_of c (records_of l) ≡ 1 + index_of c (records_of y)
  unfolding index_of
  place_next q = ap (λ (k : List ℕ). index_of c (records_of k)) e ∙ ap (index_of c) (chunk_next x y h) ∙ rw (ne_eqb (num x 0 8) c q)

-- none is left to look at
pub place_end : (c : ℕ) (l : List ℕ) → length l < 16 → index_of c (records_of l) ≡ 0
unfolding index_of
place_end c l h = ap (index_of c) (chunk_end l h)

-- in a whole store
pub place_is : (s : List ℕ) (c : ℕ) → place_of s c ≡ 16 * index_of c (records_of s)
unfolding place_of
place_is s c = refl

-- ---- unused records to the end

-- the code's test of a record, both its numbers at once
used-test : (x y : Bool) → x && y ≡ not (not x || not y)
used-test true true = refl
used-test true false = refl
used-test false y = refl

-- one record decides, or those that are left
pub unused_chunk : (l x y : List ℕ) (a b : ℕ) (t : Bool) → l ≡ x ++ y → length x ≡ 16 → a ≡ num x 0 8 → b ≡ num x 8 8 → not (eqb a 0) || not (eqb b 0) ≡ t
    → all_unused (records_of l) ≡ not t && all_unused (records_of y)
unfolding all_unused
unused_chunk l x y a b t k h ea eb e =
    ap (λ (l : List ℕ). all_unused (records_of l)) k ∙ ap all_unused (chunk_next x y h) ∙ rw (← ea, ← eb, used-test (eqb a 0) (eqb b 0), e)

pub unused_chunk_end : (l : List ℕ) → length l < 16 → all_unused (records_of l) ≡ true
unfolding all_unused
unused_chunk_end l h = ap all_unused (chunk_end l h)

-- ---- sound records to the end

-- after cookie 0 only an unused record is sound
sound-gap : (r : Record) (rs : List Record) → r.cookie ≡ 0 → sound_records (r ∷ rs) ≡ all_unused (r ∷ rs)
unfolding sound_records all_unused
sound-gap r rs e = rw (eq-eqb r.cookie 0 e) (go (eqb r.time 0))
  where
    go : (b : Bool) → cond b (all_unused rs) false ≡ b && all_unused rs
    go true = refl
    go false = refl

-- so from the first cookie 0 on
pub sound-zero : (s : List ℕ) (at : ℕ) → at + 16 ≤ length s → num s at 8 ≡ 0 → sound_records (rest s at) ≡ all_unused (rest s at)
sound-zero s at h e = rw (rest-next s at h) (sound-gap (record_at s at) (rest s (at + 16)) e)

-- one record has it, or one of those that are left
pub held_chunk : (c : ℕ) (l x y : List ℕ) (t : Bool) → l ≡ x ++ y → length x ≡ 16 → t ≡ eqb (num x 0 8) c → held c (records_of l) ≡ t || held c (records_of y)
unfolding held
held_chunk c l x y t e h q = ap (λ (k : List ℕ). held c (records_of k)) e ∙ ap (held c) (chunk_next x y h) ∙ rw (← q)

pub held_chunk_end : (c : ℕ) (l : List ℕ) → length l < 16 → held c (records_of l) ≡ false
unfolding held
held_chunk_end c l h = ap (held c) (chunk_end l h)

-- a used record is sound where its cookie stands in none after it
pub sound-next : (s : List ℕ) (at : ℕ) (t : Bool) → at + 16 ≤ length s → (num s at 8 ≡ 0 → ⊥) → t ≡ held (num s at 8) (rest s (at + 16))
    → sound_records (rest s at) ≡ not t && sound_records (rest s (at + 16))
unfolding sound_records
sound-next s at t h z e = rw (rest-next s at h, ne_eqb (num s at 8) 0 z, ← e)

pub sound-end : (s : List ℕ) (at : ℕ) → length s < at + 16 → sound_records (rest s at) ≡ true
unfolding sound_records
sound-end s at h = ap sound_records (rest_end s at h)

-- ---- the whole store

-- a wrong size is enough
pub wrong-by-size : (s : List ℕ) → wrong_size s ≡ true → wrong_store s ≡ true
unfolding wrong_store
wrong-by-size s h = rw h

-- else the records decide
pub wrong-by-records : (s : List ℕ) → wrong_size s ≡ false → wrong_store s ≡ not (sound_records (rest s 0))
unfolding wrong_store
wrong-by-records s h = rw (h, sub-zero)
