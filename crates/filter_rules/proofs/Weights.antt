-- The weight of a union. Assumes nothing.
--     count-le        of n positions at most n are set
--     union-weight    at least either weight, at most both
use mathlib.Core.Path.{◌≡◌}
use mathlib.Core.Bool.{Bool, true, false, cond, ◌||◌}
use mathlib.Core.List.{List}
use Prim.Native.Nat.{ℕ, zero, suc, ◌+◌, ◌≤◌, zero-le, min, max}
use native.Mathlib.Omega.{arith}
use lib.ListN.{length}
use Rattle.filter_rules.specs.Filter.{is_set, union, count_below, weight}
use Rattle.filter_rules.specs.Laws.{UnionWeight}
use Rattle.filter_rules.proofs.Uniting.{is_set-union}

pub count-le : (f : List ℕ) (n : ℕ) → count_below f n ≤ n
unfolding count_below
count-le f zero = zero-le
count-le f (suc n) = omega (arith, count-le f n, one-le (is_set f n))
  where
    one-le : (b : Bool) → cond b 1 0 ≤ 1
    one-le true = omega arith
    one-le false = omega arith

-- at least either count, and at most both
abbrev Between : (x y z : ℕ) → Type 0
Between x y z = (x ≤ z) × (y ≤ z) × (z ≤ x + y)

-- one position more, which is set in the union where it is set in either
between_next : (x y z : ℕ) (a b : Bool) → Between x y z → Between (x + cond a 1 0) (y + cond b 1 0) (z + cond (a || b) 1 0)
between_next x y z true true h = (omega arith, omega arith, omega arith)
between_next x y z true false h = (omega arith, omega arith, omega arith)
between_next x y z false true h = (omega arith, omega arith, omega arith)
between_next x y z false false h = (omega arith, omega arith, omega arith)

count-union : (f g : List ℕ) → length f ≡ length g → (n : ℕ) → Between (count_below f n) (count_below g n) (count_below (union f g) n)
unfolding count_below
count-union f g e zero = (zero-le, zero-le, zero-le)
count-union f g e (suc n) = rw (is_set-union f g n e) (between_next _ _ _ (is_set f n) (is_set g n) (count-union f g e n))

pub union-weight : UnionWeight
union-weight f g e =
    let u = union f g in
    let c = count-union f g e 4096 in
    let least : max (weight f) (weight g) ≤ weight u = omega (arith, c.0, c.1) in
    let most : weight u ≤ min 4096 (weight f + weight g) = omega (arith, c.2, count-le u 4096) in
    (least, most)
