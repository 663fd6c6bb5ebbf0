-- The laws of weight, the number of positions that are set. Assumes nothing.
--     count-octets    the positions that are set in several octets, by the ones of the number that they spell
--     weight-ones     in all of them
--     weight-words    the weight is the sum of the ones of the 64 words
use mathlib.Core.Path.{◌≡◌, refl, sym, ap, ap₂, ◌∙◌}
use mathlib.Core.Bool.{cond}
use mathlib.Core.List.{List, [], ◌∷◌, map, map-append, sum, sum-append}
use Prim.Native.Nat.{ℕ, zero, suc, ◌+◌, ◌*◌, ◌/◌, ◌%◌, ◌^◌, ◌≤◌, ◌<◌}
use native.Mathlib.Nat.{zero-add, add-zero, add-suc, add_assoc, div-one}
use native.Mathlib.Numerals.{add-one}
use native.Mathlib.Omega.{arith}
use lib.Arith.{le-zero}
use lib.Count.{ones, ones_step, ones-le, ones_cat}
use lib.Dec.{eqb}
use lib.ListN.{length, get_or, take}
use lib.Pow.{shr-shr}
use lib.Seq.{take-suc, take_all}
use Rattle.octets.specs.Number.{Octets}
use Rattle.filter_rules.specs.Filter.{is_set, count_below}
use Rattle.filter_rules.proofs.Adding.{digit}
use Rattle.word_rules.specs.Words.{low_first}
use Rattle.word_rules.proofs.Spelling.{low_first-lt}
use Rattle.filter_words.specs.Words.{words_of, ones_of}
use Rattle.filter_words.specs.Claim.{BitsSet, WeightOfWords}
use Rattle.filter_words.proofs.Words.{sixty-four-words, eight-octets}

count-zero : (f : List ℕ) → count_below f 0 ≡ 0
unfolding count_below
count-zero f = refl

-- ---- an octet's positions

one-digit : (x : ℕ) → x < 2 → cond (eqb x 1) 1 0 ≡ x
one-digit zero h = refl
one-digit (suc zero) h = refl
one-digit (suc (suc x)) h = absurd (omega arith)

-- of the octet at i, the positions of its k lowest digits are counted, and the ones of the others are left
count-part : (f : List ℕ) (i k : ℕ) → k ≤ 8
    → count_below f (8 * i + k) + ones (get_or f i 0 / 2 ^ k) ≡ count_below f (8 * i) + ones (get_or f i 0)
unfolding count_below
count-part f i zero h = rw (add-zero, div-one)
count-part f i (suc k) h =
    let a = get_or f i 0 in
    let q : (8 * i + k) / 8 ≡ i = omega arith in
    let r : (8 * i + k) % 8 ≡ k = omega arith in
    let e : cond (is_set f (8 * i + k)) 1 0 ≡ digit a k = rw (q, r) (one-digit (digit a k) (omega arith)) in
    let s : ones (a / 2 ^ k) ≡ digit a k + ones (a / 2 ^ suc k) =
    ones_step (a / 2 ^ k) ∙ ap (λ (n : ℕ). digit a k + ones n) (shr-shr a k 1 ∙ ap (λ (n : ℕ). a / 2 ^ n) (omega arith)) in
    rw (add-suc, e) (omega (arith, s, count-part f i k (omega arith)))

count-octet : (f : List ℕ) (i : ℕ) → get_or f i 0 < 256 → count_below f (8 * (i + 1)) ≡ count_below f (8 * i) + ones (get_or f i 0)
count-octet f i h =
    let e : 8 * (i + 1) ≡ 8 * i + 8 = omega arith in
    let z : ones (get_or f i 0 / 2 ^ 8) ≡ 0 = le-zero (ones-le 0 (get_or f i 0 / 2 ^ 8) (omega arith)) in
    ap (count_below f) e ∙ omega (arith, z, count-part f i 8 (omega arith))

-- ---- the positions of several octets, by the ones of the number that they spell

count-octets : (f : List ℕ) → Octets f → (i n : ℕ) → count_below f (8 * (i + n)) ≡ count_below f (8 * i) + ones (low_first f i n)
unfolding low_first ones
count-octets f o i zero = simp add-zero
count-octets f o i (suc n) =
    let e : 8 * (i + suc n) ≡ 8 * (i + n + 1) = omega arith in
    ap (count_below f) e ∙ omega (arith, count-octet f (i + n) (o (i + n)), count-octets f o i n, ones_cat (8 * n) (get_or f (i + n) 0) (low_first f i n) (low_first-lt f o i n))

-- in all of them
pub weight-ones : BitsSet
weight-ones f o = omega (arith, count-octets f o 0 512, count-zero f)

-- ---- by words

pub ones_none : ones_of [] ≡ 0
unfolding sum
ones_none = refl

-- the ones of one word more
pub ones-next : (ws : List ℕ) (i : ℕ) → i < length ws → ones_of (take (i + 1) ws) ≡ ones_of (take i ws) + ones (get_or ws i 0)
unfolding sum
ones-next ws i h =
    ap ones_of (ap (λ (n : ℕ). take n ws) (add-one i) ∙ take-suc ws i 0 h)
    ∙ ap (sum ◌+◌ 0) (map-append ones (take i ws) (get_or ws i 0 ∷ []))
    ∙ sum-append ◌+◌ 0 zero-add add_assoc (map ones (take i ws)) (ones (get_or ws i 0) ∷ [])
    ∙ ap (λ (n : ℕ). ones_of (take i ws) + n) (add-zero (ones (get_or ws i 0)))

-- the ones of the first n words are the positions that are set below 64n
pub ones_below : (f : List ℕ) → Octets f → (n : ℕ) → n ≤ 64 → ones_of (take n (words_of f)) ≡ count_below f (64 * n)
ones_below f o zero h = ones_none ∙ sym (count-zero f)
ones_below f o (suc n) h =
    let ws = words_of f in
    let e : 64 * suc n ≡ 8 * (8 * n + 8) = omega arith in
    let e' : 8 * (8 * n) ≡ 64 * n = omega arith in
    let counted : count_below f (64 * suc n) ≡ count_below f (64 * n) + ones (get_or ws n 0) =
    ap (count_below f) e ∙ count-octets f o (8 * n) 8
    ∙ ap₂ (λ (p x : ℕ). count_below f p + ones x) e' (sym (eight-octets f n (omega arith))) in
    ap (λ (m : ℕ). ones_of (take m ws)) (sym (add-one n)) ∙ ones-next ws n (omega (arith, sixty-four-words f))
    ∙ ap (λ (m : ℕ). m + ones (get_or ws n 0)) (ones_below f o n (omega arith)) ∙ sym counted

pub weight-words : WeightOfWords
weight-words f o =
    sym (ap ones_of (sym (take_all 64 (words_of f) (omega (arith, sixty-four-words f)))) ∙ ones_below f o 64 (omega arith))
