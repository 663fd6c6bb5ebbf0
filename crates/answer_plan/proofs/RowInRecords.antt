-- A row and then unused records: what a record that leaves and a cookie that joins make of them. Assumes nothing.
use mathlib.Core.Path.{◌≡◌, refl, sym, ap, ◌∙◌}
use mathlib.Core.Bool.{Bool, true, false, cond}
use mathlib.Core.List.{List, [], ◌∷◌, ◌++◌, append_assoc, append-nil}
use Prim.Native.Nat.{ℕ, suc, ◌+◌, ◌-◌, ◌≤◌}
use native.Mathlib.Omega.{arith}
use borrow.Author.Tests.{ltb-true, ltb-false}
use lib.Dec.{eqb, ltb}
use lib.ListN.{length, drop, replicate, length-append, replicate-append-replicate}
use lib.Seq.{take_at, drop_at}
use Rattle.store_rules.specs.Row.{Record, held, without, joined, used_of}
use Rattle.store_rules.specs.Place.{index_of}
use Rattle.octets.proofs.Tests.{or-none}
use Rattle.store_rules.proofs.Rows.{Parted, part-row, held-append, index-append}
use Rattle.store_rules.proofs.Stores.{all-unused-are}
use Rattle.records.specs.Records.{unused_record, leave_records, with_cookie_at_free, join_records}
use Rattle.records.proofs.Sounds.{Sound}
use Rattle.answer_plan.specs.Step.{row_in_records}

-- ---- records that are not wrong are so

pub row-most : (rs : List Record) → Sound rs → length (used_of rs) ≤ length rs
row-most rs w = let l : length rs ≡ length (used_of rs) + length w.rest = ap length w.parts ∙ length-append (used_of rs) w.rest in omega arith

pub right-row : (rs : List Record) → Sound rs → rs ≡ row_in_records (length rs) (used_of rs)
right-row rs w =
    let l : length rs ≡ length (used_of rs) + length w.rest = ap length w.parts ∙ length-append (used_of rs) w.rest in
    let k : length w.rest ≡ length rs - length (used_of rs) = omega arith in
    w.parts ∙ ap (λ (l : List Record). used_of rs ++ l) (all-unused-are w.rest w.free ∙ ap (λ (m : ℕ). replicate m unused_record) k)

-- ---- a record leaves

-- the records that it stands between move together, and an unused one comes to the end
leave-at : (a : List Record) (r : Record) (b : List Record) (at : ℕ) → length a ≡ at → leave_records (a ++ (r ∷ b)) at ≡ a ++ (b ++ (unused_record ∷ []))
unfolding leave_records
leave-at a r b at e =
    let u : List Record = unused_record ∷ [] in
    let l : length (a ++ (r ∷ [])) ≡ at + 1 = length-append a (r ∷ []) ∙ rw e in
    let s : (a ++ (r ∷ b)) ++ u ≡ (a ++ (r ∷ [])) ++ (b ++ u) = append_assoc a (r ∷ b) u ∙ sym (append_assoc a (r ∷ []) (b ++ u)) in
    rw (s, take_at a (r ∷ b) at e, drop_at (a ++ (r ∷ [])) (b ++ u) (at + 1) l)

module _ (n c : ℕ) (row : List Record) (h : held c row ≡ true) (most : length row ≤ n) where
  parted : Parted c row
  parted = part-row c row h

  pub leave-row : leave_records (row_in_records n row) (index_of c (row_in_records n row)) ≡ row_in_records n (without c row)
  leave-row =
      let a = parted.before in
      let r = parted.found in
      let b = parted.after in
      let k = n - length row in
      let free = replicate k unused_record in
      let index : index_of c (row_in_records n row) ≡ length a = index-append c row free h ∙ parted.index in
      let total : length row ≡ length a + suc (length b) = ap length parted.whole ∙ length-append a (r ∷ b) in
      let count : n - length (a ++ b) ≡ k + 1 = omega (arith, length-append a b) in
      let whole : row_in_records n row ≡ a ++ (r ∷ (b ++ free)) = ap (λ (l : List Record). l ++ free) parted.whole ∙ append_assoc a (r ∷ b) free in
      ap (leave_records (row_in_records n row)) index
      ∙ ap (λ (l : List Record). leave_records l (length a)) whole
      ∙ leave-at a r (b ++ free) (length a) refl
      ∙ ap (λ (l : List Record). a ++ l) (append_assoc b free (unused_record ∷ []) ∙ ap (λ (l : List Record). b ++ l) (replicate-append-replicate k 1 unused_record))
      ∙ sym (append_assoc a b (replicate (k + 1) unused_record))
      ∙ ap (λ (m : ℕ). (a ++ b) ++ replicate m unused_record) (sym count)
      ∙ ap (row_in_records n) (sym parted.removed)

-- ---- a cookie joins

-- the first record with cookie 0 is the unused one after records with others
free-after : (c : ℕ) (row l : List Record) → held 0 row ≡ false → with_cookie_at_free c (row ++ (unused_record ∷ l)) ≡ row ++ (record { cookie = c; time = 0 } ∷ l)
unfolding with_cookie_at_free held
free-after c [] l h = refl
free-after c (r ∷ row) l h =
    let p = or-none (eqb r.cookie 0) (held 0 row) h in
    rw p.0 (ap (λ (k : List Record). r ∷ k) (free-after c row l p.1))

module _ (n c : ℕ) (row : List Record) (h : held 0 row ≡ false) where
  abbrev fresh : List Record
  fresh = record { cookie = c; time = 0 } ∷ []

  -- there is room
  join-room : length row + 1 ≤ n → join_records (row_in_records n row) c ≡ row_in_records n (row ++ fresh)
  unfolding join_records held
  join-room l =
      let k = n - (length row + 1) in
      let e : n - length row ≡ suc k = omega arith in
      let s : row_in_records n row ≡ row ++ (unused_record ∷ replicate k unused_record) = ap (λ (m : ℕ). row ++ replicate m unused_record) e in
      let t : held 0 (row ++ (unused_record ∷ replicate k unused_record)) ≡ true = held-append 0 row (unused_record ∷ replicate k unused_record) ∙ rw h in
      rw (s, t) (free-after c row (replicate k unused_record) h)
      ∙ sym (append_assoc row fresh (replicate k unused_record))
      ∙ ap (λ (m : ℕ). (row ++ fresh) ++ replicate (n - m) unused_record) (sym (length-append row fresh))

-- a full row is its records
full-row : (n : ℕ) (row : List Record) → n ≤ length row → row_in_records n row ≡ row
full-row n row h = let z : n - length row ≡ 0 = omega arith in rw z (append-nil row)

held-later : (r : Record) (row : List Record) → held 0 (r ∷ row) ≡ false → held 0 row ≡ false
unfolding held
held-later r row h = (or-none (eqb r.cookie 0) (held 0 row) h).1

-- there the oldest leaves
join_first : (c : ℕ) (r : Record) (row : List Record) → held 0 (r ∷ row) ≡ false → join_records (r ∷ row) c ≡ row ++ (record { cookie = c; time = 0 } ∷ [])
unfolding join_records leave_records
join_first c r row h = rw h (free-after c row [] (held-later r row h))

join-none : (n c : ℕ) (row : List Record) → held 0 row ≡ false → 1 ≤ n → length row ≡ n → join_records (row_in_records n row) c ≡ row_in_records n (drop 1 row ++ (record { cookie = c; time = 0 } ∷ []))
join-none n c [] h low e = absurd (omega (arith, low, e))
join-none n c (r ∷ row) h low e =
    let x : List Record = record { cookie = c; time = 0 } ∷ [] in
    ap (λ (l : List Record). join_records l c) (full-row n (r ∷ row) (omega (arith, e)))
    ∙ join_first c r row h
    ∙ sym (full-row n (row ++ x) (omega (arith, e, length-append row x)))

pub join-row : (n c : ℕ) (row : List Record) → held 0 row ≡ false → 1 ≤ n → length row ≤ n → join_records (row_in_records n row) c ≡ row_in_records n (joined n c row)
join-row n c row h low most = go (ltb (length row) n) refl
  where
    go : (b : Bool) → ltb (length row) n ≡ b → join_records (row_in_records n row) c ≡ row_in_records n (cond b row (drop 1 row) ++ (record { cookie = c; time = 0 } ∷ []))
    go true q = let l = ltb-true (length row) n q in join-room n c row h (omega arith)
    go false q = let l = ltb-false (length row) n q in join-none n c row h low (omega arith)
