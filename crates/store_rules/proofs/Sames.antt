-- Two numbers are the same where their upper and their lower octets are. Assumes nothing.
use mathlib.Core.Path.{◌≡◌, refl, sym, ap, ◌∙◌}
use mathlib.Core.Bool.{Bool, true, false, ◌&&◌}
use mathlib.Core.List.{List}
use Prim.Native.Nat.{ℕ, ◌+◌, ◌*◌, ◌/◌, ◌%◌, ◌^◌, ◌<◌}
use borrow.Author.Tests.{eq-eqb, ne_eqb, eqb-true, eqb-false}
use lib.Arith.{digits_div, digits_mod}
use lib.Dec.{eqb}
use lib.ListN.{get_or}
use Rattle.octets.specs.Number.{Octets, num}
use Rattle.octets.proofs.Numbers.{num-lt, num-add, num-one}

-- two digits of a number
eqb-digits : (x y u v d : ℕ) → u < d → v < d → eqb (x * d + u) (y * d + v) ≡ eqb x y && eqb u v
eqb-digits x y u v d hu hv = go (eqb x y) refl (eqb u v) refl
  where
    upper : x * d + u ≡ y * d + v → x ≡ y
    upper k = sym (digits_div x hu) ∙ ap (λ (n : ℕ). n / d) k ∙ digits_div y hv

    lower : x * d + u ≡ y * d + v → u ≡ v
    lower k = sym (digits_mod x hu) ∙ ap (λ (n : ℕ). n % d) k ∙ digits_mod y hv

    go : (p : Bool) → eqb x y ≡ p → (q : Bool) → eqb u v ≡ q → eqb (x * d + u) (y * d + v) ≡ p && q
    go true e true f = let a = eqb-true x y e in let b = eqb-true u v f in eq-eqb (x * d + u) (y * d + v) (cc)
    go true e false f = ne_eqb _ _ (λ (k : x * d + u ≡ y * d + v). eqb-false u v f (lower k))
    go false e q f = ne_eqb _ _ (λ (k : x * d + u ≡ y * d + v). eqb-false x y e (upper k))

-- of two lists; where the second is empty, its number is 0

pub same-halves : (s t : List ℕ) (a b m n : ℕ) → Octets s → Octets t
    → eqb (num s a (m + n)) (num t b (m + n)) ≡ eqb (num s a m) (num t b m) && eqb (num s (a + m) n) (num t (b + m) n)
same-halves s t a b m n o p =
    rw (num-add s a m n, num-add t b m n)
    (eqb-digits (num s a m) (num t b m) _ _ (256 ^ n) (num-lt s (a + m) n o) (num-lt t (b + m) n p))

-- four octets, as the code compares them
pub same-four : (s t : List ℕ) (a b : ℕ) → Octets s → Octets t → eqb (num s a 4) (num t b 4) ≡ ((eqb (get_or s a 0) (get_or t b 0) && eqb (get_or s (a + 1) 0) (get_or t (b + 1) 0)) && eqb (get_or s (a + 2) 0) (get_or t (b + 2) 0)) && eqb (get_or s (a + 3) 0) (get_or t (b + 3) 0)
same-four s t a b o p = rw (same-halves s t a b 3 1 o p, same-halves s t a b 2 1 o p, same-halves s t a b 1 1 o p) (simp num-one)
