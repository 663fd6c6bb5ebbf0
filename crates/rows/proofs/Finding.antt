-- Looking for a row, and for the first wrong word. Assumes nothing.
use mathlib.Core.Path.{◌≡◌, refl, sym, ap, ◌∙◌}
use Rattle.std.proofs.Common.{Option, Some, None, Result, Err}
use Rattle.words.proofs.Problems.{some_problem}
use Rattle.words.specs.Wrong.{problem_number}
use Rattle.rows.specs.declared.Fault.{Fault}
use Rattle.rows.specs.Answers.{some_row, with_call, told, outcome_as, called}
use mathlib.Core.Bool.{Bool, true, false, cond}
use mathlib.Core.List.{List}
use Prim.Native.Nat.{ℕ, zero, suc, ◌+◌, ◌-◌, ◌<◌, ◌≤◌}
use native.Mathlib.Omega.{arith}
use borrow.Author.Tests.{eq-eqb, eqb-true, eqb-false, ne_eqb, lt-ltb, le-ltb}
use lib.Dec.{eqb}
use lib.ListN.{length}
use Rattle.text.specs.Place.{part_of, piece_of, same_of}
use Rattle.rows.specs.Rows.{found, problem_at, fault_from, fault_of, row_from, row_number, found_at, found_of, call_number}

-- THE FIRST WRONG WORD

module _ (call i : ℕ) (line signature : List ℕ) (problem : ℕ) (e : problem ≡ problem_at i line signature) where
  pub fault-here : (n : ℕ) → 0 < n → (problem ≡ 0 → ⊥) → found call (i + 2) problem ≡ fault_from n i call line signature
  unfolding fault_from
  fault-here zero h k = absurd (omega arith)
  fault-here (suc n) h k = rw (← e, ne_eqb problem 0 k)

  pub fault-next : (n m : ℕ) → n ≡ m + 1 → problem ≡ 0 → fault_from m (i + 1) call line signature ≡ fault_from n i call line signature
  unfolding fault_from
  fault-next n m h k = let z : n ≡ suc m = omega arith in rw (z, ← e, eq-eqb problem 0 k)

pub fault-first : (call : ℕ) (line signature : List ℕ) → fault_from (length signature + 1 - 0) 0 call line signature ≡ fault_of call line signature
fault-first call line signature = let z : length signature + 1 - 0 ≡ length signature + 1 = omega arith in rw z

pub fault-none : (call i : ℕ) (line signature : List ℕ) (n : ℕ) → n ≡ 0 → found call 0 0 ≡ fault_from n i call line signature
unfolding fault_from
fault-none call i line signature n h = rw h

-- THE ROW OF A NAME

module _ (rows name : List ℕ) (k : ℕ) where
  pub row_here : (n : ℕ) → 0 < n → same_of (piece_of (piece_of rows k 10) 0 32) name ≡ true → k ≡ row_from n k rows name
  unfolding row_from
  row_here zero h e = absurd (omega arith)
  row_here (suc n) h e = rw e

  pub row_next : (n m : ℕ) → n ≡ m + 1 → same_of (piece_of (piece_of rows k 10) 0 32) name ≡ false → row_from m (k + 1) rows name ≡ row_from n k rows name
  unfolding row_from
  row_next n m h e = let z : n ≡ suc m = omega arith in rw (z, e)

  pub row-none : (n : ℕ) → n ≡ 0 → k ≡ row_from n k rows name
  unfolding row_from
  row-none n h = rw h

-- a row is one before the end
pub is_row : (k n : ℕ) → Some k ≡ some_row n → (k ≡ n) × (n ≡ 64 → ⊥)
is_row k n h = go (eqb n 64) refl h
  where
    go : (b : Bool) → eqb n 64 ≡ b → Some k ≡ cond b None (Some n) → (k ≡ n) × (n ≡ 64 → ⊥)
    go true e f = cc
    go false e f = (cc, eqb-false n 64 e)

pub no_row : (n : ℕ) → None ≡ some_row n → n ≡ 64
no_row n h = go (eqb n 64) refl h
  where
    go : (b : Bool) → eqb n 64 ≡ b → None ≡ cond b None (Some n) → n ≡ 64
    go true e f = eqb-true n 64 e
    go false e f = cc

pub row_as : (k n : ℕ) → n < 64 → k ≡ n → Some k ≡ some_row n
row_as k n h e = rw (ne_eqb n 64 (λ (z : n ≡ 64). omega arith), e)

-- THE CALL OF A LINE

module _ (rows line name : List ℕ) (e : name ≡ piece_of line 0 32) where
  pub find_none : length name ≡ 0 → (None, (0, 0)) ≡ told (found_of rows line)
  unfolding found_of
  find_none h = rw (← e, h)

  module _ (h : length name ≡ 0 → ⊥) where
    find_at : found_at (row_number rows name) rows line ≡ found_of rows line
    unfolding found_of
    find_at = rw (← e, ne_eqb (length name) 0 h)

    pub find-unknown : None ≡ some_row (row_number rows name) → (None, (1, 1)) ≡ told (found_of rows line)
    find-unknown k = ap told (rw (no_row _ k) at find_at)

    module _ (call : ℕ) (k : Some call ≡ some_row (row_number rows name)) (row signature : List ℕ) (g : row ≡ piece_of rows call 10)
        (l : signature ≡ piece_of row 1 32) where
      known : fault_of call line signature ≡ found_of rows line
      known =
          let z = is_row _ _ k in
          let y : fault_of call line signature ≡ found_at (row_number rows name) rows line = rw (← z.0, ne_eqb call 64 (λ x. z.1 (sym z.0 ∙ x)), l, g) in
          y ∙ find_at

      pub find-known : found call 0 0 ≡ fault_of call line signature → (Some call, (0, 0)) ≡ told (found_of rows line)
      find-known f =
          let z = is_row _ _ k in
          let y : (Some call, (0, 0)) ≡ told (found call 0 0) = rw (ne_eqb call 64 (λ x. z.1 (sym z.0 ∙ x))) in
          y ∙ ap told (f ∙ known)

      pub find-fault : (fault : Fault) → with_call call (Err fault) ≡ fault_of call line signature
          → (None, (fault.word, problem_number fault.problem)) ≡ told (found_of rows line)
      find-fault fault f =
          let y : (None, (fault.word, problem_number fault.problem)) ≡ told (with_call call (Err fault)) = rw (ne_eqb (problem_number fault.problem) 0 (some_problem fault.problem)) in
          y ∙ ap told (f ∙ known)

module _ (rows line : List ℕ) (n : ℕ) where
  pub call_long : length line < n → None ≡ some_row (call_number rows line n)
  unfolding call_number
  call_long h = rw (lt-ltb (length line) n h)

  pub call_at : n ≤ length line → (s : List ℕ) → s ≡ part_of line 0 n → (r : Result (Option ℕ) Fault) → outcome_as r ≡ told (found_of rows s)
      → called r ≡ some_row (call_number rows line n)
  unfolding call_number
  call_at h s e r f = rw (le-ltb (length line) n h, ← e) (ap (λ (w : Option ℕ × (ℕ × ℕ)). w.0) f)
