-- One fixed answer and an invented weight are rejected. Assumes nothing.
use mathlib.Core.Path.{◌≡◌, refl, sym, ap, ◌∙◌}
use mathlib.Core.Bool.{Bool, true, ◌&&◌, and-eq-true_iff}
use mathlib.Core.List.{List, [], ◌∷◌}
use Prim.Native.Nat.{ℕ, zero, suc, ◌+◌}
use native.Mathlib.Omega.{arith}
use borrow.Author.Tests.{eqb-true}
use lib.Dec.{eqb}
use lib.IntN.{ℤ, pos, negsuc}
use lib.ListN.{length, get_or, replicate}
use Rattle.filter_rules.specs.Positions.{positions}
use Rattle.filter_rules.specs.Filter.{fresh_filter, of_id, weight}
use Rattle.filter_rules.proofs.Adding.{length-add_all, length-fresh}
use Rattle.measure.specs.Measure.{measurement}
use Rattle.worked.specs.Cases.{Row, M, MeasurementFunction, WeightFunction, table_for, same, all_same, values_said, agree, WorkedFor}
use Rattle.worked.specs.Idle.{constant_answer, OneOffset, OneDelay, fixed_weight, one_added, WeightFor, IdleRejected}
use Rattle.worked.proofs.Claim.{worked}

-- ---- a row of a table that holds

module _ (r : Row) (rs : List Row) (n k : ℕ) (ks : List ℕ) (e : agree n (k ∷ ks) (r ∷ rs) ≡ true) where
  abbrev numbered : Bool
  numbered = eqb r.case n && eqb (length r.says) k

  first-row : all_same r.gives r.says ≡ true
  unfolding agree
  first-row =
      let h = ((and-eq-true_iff (numbered && all_same r.gives r.says) (agree (suc n) ks rs)).0 e).0 in
      ((and-eq-true_iff numbered (all_same r.gives r.says)).0 h).1

  rows-after : agree (suc n) ks rs ≡ true
  unfolding agree
  rows-after = ((and-eq-true_iff (numbered && all_same r.gives r.says) (agree (suc n) ks rs)).0 e).1

agree_at : (n : ℕ) (ks : List ℕ) (rs : List Row) (i : ℕ) → agree n ks rs ≡ true
    → all_same (get_or rs i (M 0 [] [])).gives (get_or rs i (M 0 [] [])).says ≡ true
unfolding agree all_same
agree_at n ks [] i e = refl
agree_at n [] (r ∷ rs) i e = let z : ◌≡◌ {A = ℕ} 0 1 = cc in absurd (omega arith)
agree_at n (k ∷ ks) (r ∷ rs) zero e = first-row r rs n k ks e
agree_at n (k ∷ ks) (r ∷ rs) (suc i) e = agree_at (suc n) ks rs i (rows-after r rs n k ks e)

same-eq : (x y : ℤ) → same x y ≡ true → x ≡ y
unfolding same
same-eq (pos a) (pos b) e = ap pos (eqb-true a b e)
same-eq (pos a) (negsuc b) e = let z : ◌≡◌ {A = ℕ} 0 1 = cc in absurd (omega arith)
same-eq (negsuc a) (pos b) e = let z : ◌≡◌ {A = ℕ} 0 1 = cc in absurd (omega arith)
same-eq (negsuc a) (negsuc b) e = ap negsuc (eqb-true a b e)

-- a row of two numbers
two-same : (x y p q : ℤ) → all_same (x ∷ y ∷ []) (p ∷ q ∷ []) ≡ true → (x ≡ p) × (y ≡ q)
unfolding all_same
two-same x y p q e =
    let h = (and-eq-true_iff (same x p) (same y q && true)).0 e in
    (same-eq x p h.0, same-eq y q ((and-eq-true_iff (same y q) true).0 h.1).0)

-- and without its first
rest-same : (x y : ℤ) (xs ys : List ℤ) → all_same (x ∷ xs) (y ∷ ys) ≡ true → all_same xs ys ≡ true
unfolding all_same
rest-same x y xs ys e = ((and-eq-true_iff (same x y) (all_same xs ys)).0 e).1

module _ (m : MeasurementFunction) (w : WeightFunction) (e : WorkedFor m w) where
  m5 : pos (w (of_id (replicate 15 0))) ≡ pos 1
  unfolding table_for
  m5 = (two-same _ _ _ _ (agree_at 1 values_said (table_for m w) 4 e)).1

  m7 : pos (w (of_id (0x00 ∷ 0x10 ∷ 0x02 ∷ replicate 12 0))) ≡ pos 3
  unfolding table_for
  m7 = (two-same _ _ _ _ (agree_at 1 values_said (table_for m w) 6 e)).1

  m8 : ((m 0xFFFFFFFF00000000 0x80000000 0x80000000 0x100000000).offset ≡ pos 2147483648)
      × (pos (m 0xFFFFFFFF00000000 0x80000000 0x80000000 0x100000000).delay ≡ pos 8589934592)
  unfolding table_for
  m8 = two-same _ _ _ _ (rest-same _ _ _ _ (agree_at 1 values_said (table_for m w) 7 e))

  m9 : ((m 10 10 10 11).offset ≡ negsuc 0) × (pos (m 10 10 10 11).delay ≡ pos 1)
  unfolding table_for
  m9 = two-same _ _ _ _ (rest-same _ _ _ _ (agree_at 1 values_said (table_for m w) 8 e))

-- ---- one fixed answer

one-offset : (x : ℤ) (m : MeasurementFunction) (w : WeightFunction) → OneOffset x m → WorkedFor m w → ⊥
one-offset x m w h e =
    let z : pos 2147483648 ≡ negsuc 0 = sym (m8 m w e).0 ∙ h _ _ _ _ ∙ sym (h _ _ _ _) ∙ (m9 m w e).0 in
    let f : ◌≡◌ {A = ℕ} 0 1 = cc in
    omega arith

one-delay : (n : ℕ) (m : MeasurementFunction) (w : WeightFunction) → OneDelay n m → WorkedFor m w → ⊥
one-delay n m w h e =
    let z : pos 8589934592 ≡ pos 1 = sym (m8 m w e).1 ∙ ap pos (h _ _ _ _ ∙ sym (h _ _ _ _)) ∙ (m9 m w e).1 in
    let f : ◌≡◌ {A = ℕ} 8589934592 1 = cc in
    omega arith

-- ---- an invented weight

fixed-weight-worked : (n : ℕ) (m : MeasurementFunction) → WorkedFor m (fixed_weight n) → ⊥
fixed-weight-worked n m e =
    let z : pos 1 ≡ pos 3 = sym (m5 m (fixed_weight n) e) ∙ m7 m (fixed_weight n) e in
    let f : ◌≡◌ {A = ℕ} 1 3 = cc in
    omega arith

-- what weight's definition gives at M-5 and M-7
fixed-weight : (n : ℕ) → WeightFor (fixed_weight n) → ⊥
fixed-weight n d =
    let at : (id : List ℕ) → n ≡ weight (of_id id) = λ id. d (of_id id) (length-add_all fresh_filter (positions id) ∙ length-fresh) in
    let z : pos 1 ≡ pos 3 =
    sym (m5 measurement weight worked) ∙ ap pos (sym (at (replicate 15 0)) ∙ at (0x00 ∷ 0x10 ∷ 0x02 ∷ replicate 12 0)) ∙ m7 measurement weight worked in
    let f : ◌≡◌ {A = ℕ} 1 3 = cc in
    omega arith

-- one number is not one more than itself
next-not : (n v : ℕ) → pos (n + 1) ≡ pos v → pos n ≡ pos v → ⊥
next-not n v e f =
    let z : n + 1 ≡ n = cc in
    omega arith

pub idle-rejected : IdleRejected
idle-rejected = record {
  fixed_answer = λ a w. one-offset a.offset (constant_answer a) w (λ t1 t2 t3 t4. refl);
  one-offset = one-offset;
  one-delay = one-delay;
  fixed-weight = fixed-weight;
  one_more = λ d. omega (arith, d fresh_filter length-fresh);
  fixed-weight-worked = fixed-weight-worked;
  one-more-worked = λ m e. next-not (weight (of_id (replicate 15 0))) 1 (m5 m one_added e) (m5 measurement weight worked);
}
