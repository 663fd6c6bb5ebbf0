-- The sum of 16-bit words of lists that follow one another, of a part that is replaced, and of numbers in network order. Assumes nothing.
use mathlib.Core.Path.{◌≡◌, ap, ◌∙◌}
use mathlib.Core.List.{List, [], ◌∷◌, ◌++◌}
use Prim.Native.Nat.{ℕ, ◌+◌, ◌/◌, ◌%◌, ◌^◌, ◌<◌}
use native.Mathlib.Omega.{arith}
use lib.ListN.{length}
use Rattle.octets.specs.Number.{octets}
use Rattle.octets.proofs.Numbers.{octets-add, length-octets}
use Rattle.correction_rules.specs.Sum.{word_sum}

-- whole words first
pub sum-append : (xs ys : List ℕ) → length xs % 2 ≡ 0 → word_sum (xs ++ ys) ≡ word_sum xs + word_sum ys
unfolding word_sum
sum-append [] ys h = omega arith
sum-append (x ∷ []) ys h = absurd (omega arith)
sum-append (x ∷ y ∷ xs) ys h = let e = sum-append xs ys (omega arith) in omega arith

-- a part of whole words in the place of another
pub sum-replaced : (p old new q : List ℕ) → length p % 2 ≡ 0 → length old % 2 ≡ 0 → length new % 2 ≡ 0
    → word_sum (p ++ (new ++ q)) + word_sum old ≡ word_sum (p ++ (old ++ q)) + word_sum new
sum-replaced p old new q hp ho hn =
    omega (arith, sum-append p (new ++ q) hp, sum-append p (old ++ q) hp, sum-append new q hn, sum-append old q ho)

-- the words of a number: one, and one more
pub sum_one : (v : ℕ) → v < 2 ^ 16 → word_sum (octets 2 v) ≡ v
unfolding word_sum octets
sum_one v h = omega arith

pub sum_more : (n v : ℕ) → n % 2 ≡ 0 → word_sum (octets (n + 2) v) ≡ word_sum (octets n (v / 2 ^ 16)) + v % 2 ^ 16
sum_more n v h =
    ap word_sum (octets-add n 2 v)
    ∙ sum-append (octets n (v / 2 ^ 16)) (octets 2 (v % 2 ^ 16)) (rw (length-octets n (v / 2 ^ 16)) h)
    ∙ rw (sum_one (v % 2 ^ 16) (omega arith))
