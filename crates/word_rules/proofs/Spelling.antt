-- The number that octets spell, the first the lowest. Assumes nothing.
--     low_first-lt    n octets spell a number below 2^(8n)
--     octet-of       octet k of that number is the k-th of them
use mathlib.Core.Path.{◌≡◌, sym, ap, ◌∙◌}
use mathlib.Core.List.{List}
use Prim.Native.Nat.{ℕ, zero, suc, ◌+◌, ◌-◌, ◌*◌, ◌/◌, ◌%◌, ◌^◌, ◌<◌}
use native.Mathlib.Decide.{ℕ_discrete}
use native.Mathlib.Omega.{arith}
use lib.Arith.{digits_lt}
use lib.Dec.{lit<}
use lib.ListN.{get_or}
use lib.Pow.{pow-add, mod-mod-pow, field, high, low}
use Rattle.octets.specs.Number.{Octets}
use Rattle.word_rules.specs.Words.{low_first}

pub low_first-lt : (l : List ℕ) → Octets l → (i n : ℕ) → low_first l i n < 2 ^ (8 * n)
unfolding low_first
low_first-lt l o i zero = lit< tt
low_first-lt l o i (suc n) =
    let e : 8 * suc n ≡ 8 + 8 * n = omega arith in
    rw (e, pow-add) (digits_lt (o _) (low_first-lt l o _ n))

-- octet k of a number below 2^(8n), whatever stands above
octet-below : (a r n k : ℕ) → r < 2 ^ (8 * n) → k < n → (a * 2 ^ (8 * n) + r) / 2 ^ (8 * k) % 256 ≡ r / 2 ^ (8 * k) % 256
octet-below a r n k l h =
    let m = 8 * n - (8 + 8 * k) in
    let e : 8 * n ≡ m + (8 + 8 * k) = omega arith in
    let x = a * 2 ^ (8 * n) + r in
    sym (field x 8 (8 * k))
    ∙ ap (λ (y : ℕ). y / 2 ^ (8 * k))
    (sym (mod-mod-pow x m (8 + 8 * k)) ∙ ap (λ (y : ℕ). x % 2 ^ y % 2 ^ (8 + 8 * k)) (sym e)
    ∙ ap (λ (y : ℕ). y % 2 ^ (8 + 8 * k)) (low a (8 * n) l))
    ∙ field r 8 (8 * k)

pub octet-of : (l : List ℕ) → Octets l → (i n k : ℕ) → k < n → low_first l i n / 2 ^ (8 * k) % 256 ≡ get_or l (i + k) 0
unfolding low_first
octet-of l o i zero k h = absurd (omega arith)
octet-of l o i (suc n) k h = go (octet-of l o i n k) (ℕ_discrete k n)
  where
    go : (k < n → low_first l i n / 2 ^ (8 * k) % 256 ≡ get_or l (i + k) 0) → Dec (k ≡ n)
        → (get_or l (i + n) 0 * 2 ^ (8 * n) + low_first l i n) / 2 ^ (8 * k) % 256 ≡ get_or l (i + k) 0
    go below (yes e) =
        rw e (ap (λ (x : ℕ). x % 256) (high (get_or l (i + n) 0) (8 * n) (low_first-lt l o i n)) ∙ omega (arith, o (i + n)))
    go below (no f) =
        let h' : k < n = omega (arith, f) in
        octet-below (get_or l (i + n) 0) (low_first l i n) n k (low_first-lt l o i n) h' ∙ below h'
