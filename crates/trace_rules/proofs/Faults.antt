-- A record that has its call, and what is known from it. Assumes nothing.
use mathlib.Core.Path.{◌≡◌, sym, ap}
use mathlib.Core.Bool.{true, false, not}
use mathlib.Core.List.{List}
use Prim.Native.Nat.{ℕ, ◌+◌, ◌≤◌}
use native.Mathlib.Omega.{arith}
use borrow.Author.Tests.{le-ltb, ltb-false, eq-eqb, ne_eqb, eqb-true, not-false}
use lib.Dec.{eqb, ltb}
use lib.ListN.{length}
use Rattle.octets.specs.Number.{num}
use Rattle.octets.proofs.Tests.{by-test}
use Rattle.trace_rules.specs.Record.{mark, head_length, is_kind, data_size, wrong_mode, action_of, found_in}
use Rattle.trace_rules.specs.declared.Record.{Record}
use Rattle.trace_rules.specs.declared.Fault.{Fault}
use Rattle.trace_rules.specs.declared.Found.{Found}
use Rattle.trace_rules.specs.declared.Found.TheVariants.{Call, End, Wrong}

-- the record that s begins with, if it has no fault
abbrev pub record_in : (kind size : ℕ) → List ℕ → Record
record_in kind size s = record { association = num s 3 1; action = action_of kind s; size = size }

-- none of the faults
pub record Faultless (kind size : ℕ) (s : List ℕ) : Type 0 where
  pub room : head_length + size ≤ length s
  pub marked : num s 0 2 ≡ mark
  pub is-kind : is_kind kind ≡ true
  pub is-size : size ≡ data_size kind size
  pub is-mode : wrong_mode kind s ≡ false

record_found : Found → Record → Record
record_found (Call r) q = r
record_found End q = q
record_found (Wrong f) q = q

-- nothing else is a call

pub end-no-call : {r : Record} → End ≡ Call r → ⊥
end-no-call q = let z : ◌≡◌ {A = ℕ} 0 1 = cc in omega arith

pub wrong-no-call : {f : Fault} {r : Record} → Wrong f ≡ Call r → ⊥
wrong-no-call q = let z : ◌≡◌ {A = ℕ} 0 1 = cc in omega arith

-- what is known where a call is found
pub record Calls (s : List ℕ) (r : Record) : Type 0 where
  pub faultless : Faultless (num s 2 1) (num s 4 2) s
  pub is-record : r ≡ record_in (num s 2 1) (num s 4 2) s

pub found-call : (s : List ℕ) (r : Record) → found_in s ≡ Call r → Calls s r
unfolding found_in record_found
found-call s r =
    by-test P (eqb (length s) 0) (λ t q. absurd (end-no-call q)) (λ t.
    by-test P (ltb (length s) head_length) (λ u q. absurd (wrong-no-call q)) (λ u.
    by-test P (not (eqb (num s 0 2) mark)) (λ v q. absurd (wrong-no-call q)) (λ v.
    by-test P (not (is_kind kind)) (λ w q. absurd (wrong-no-call q)) (λ w.
    by-test P (not (eqb size (data_size kind size))) (λ x q. absurd (wrong-no-call q)) (λ x.
    by-test P _ (λ y q. absurd (wrong-no-call q)) (λ y.
    by-test P (wrong_mode kind s) (λ z q. absurd (wrong-no-call q)) (λ z q.
    record {
      faultless = record {
        room = ltb-false _ _ y;
        marked = eqb-true _ _ (not-false _ v);
        is-kind = not-false _ w;
        is-size = eqb-true _ _ (not-false _ x);
        is-mode = z;
      };
      is-record = sym (ap (λ (f : Found). record_found f r) q);
    })))))))
  where
    kind : ℕ
    kind = num s 2 1

    size : ℕ
    size = num s 4 2

    P : Found → Type 0
    P f = f ≡ Call r → Calls s r

-- a call's record is there whole
pub call-room : (s : List ℕ) (r : Record) → found_in s ≡ Call r → head_length + r.size ≤ length s
call-room s r e =
    let c = found-call s r e in
    let g = c.faultless in
    let n : r.size ≡ num s 4 2 = ap (λ (x : Record). x.size) c.is-record in
    omega (arith, g.room)

-- the other way round
pub at_call : (kind size : ℕ) (s : List ℕ) → num s 2 1 ≡ kind → num s 4 2 ≡ size → Faultless kind size s
    → found_in s ≡ Call (record_in kind size s)
unfolding found_in
at_call kind size s k n g =
    let r = g.room in
    let some : length s ≡ 0 → ⊥ = λ z. omega arith in
    let head : head_length ≤ length s = omega arith in
    rw (ne_eqb _ _ some, le-ltb _ _ head, eq-eqb _ _ g.marked, k, n, g.is-kind, eq-eqb _ _ g.is-size, le-ltb _ _ r, g.is-mode)
