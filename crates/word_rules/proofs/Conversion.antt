-- The laws of the conversion between octets and words. Assumes nothing.
--     length-octets, octets-octets, octet-at    eight octets of each word; octet j is octet j mod 8 of word j div 8
--     length-words, words-lt, words-at          n words below 2^64; word k is what its eight octets spell
--     octet-kept, octets-back, words_back       nothing is lost either way
use mathlib.Core.Path.{◌≡◌, refl, sym, ap, ◌∙◌}
use mathlib.Core.List.{List, [], ◌∷◌, ◌++◌}
use Prim.Native.Nat.{ℕ, zero, suc, ◌+◌, ◌-◌, ◌*◌, ◌/◌, ◌%◌, ◌^◌, ◌<◌, ◌≤◌}
use native.Mathlib.Nat.{add-zero, div-one, zero-div}
use native.Mathlib.Decide.{dec_lt}
use native.Mathlib.Omega.{arith}
use lib.ListN.{length, get_or, take, length-append, get_or-append}
use lib.Pow.{shr-shr, mod-pow-add}
use lib.Seq.{ext_get_or, get_or-append-add, get_or-take, length-take-le}
use Rattle.octets.specs.Number.{Octets}
use Rattle.word_rules.specs.Words.{Words, low_first, words_from, low_octets, octets_of}
use Rattle.word_rules.proofs.Spelling.{low_first-lt, octet-of}

-- ---- the octets of a word

pub length-low : (n w : ℕ) → length (low_octets n w) ≡ n
unfolding low_octets
length-low zero w = refl
length-low (suc n) w = ap suc (length-low n _)

pub low-at : (n w k : ℕ) → k < n → get_or (low_octets n w) k 0 ≡ w / 2 ^ (8 * k) % 256
unfolding low_octets
low-at zero w k h = absurd (omega arith)
low-at (suc n) w zero h = rw div-one
low-at (suc n) w (suc k) h =
    let e : 8 + 8 * k ≡ 8 * suc k = omega arith in
    low-at n (w / 256) k (omega arith) ∙ ap (λ (x : ℕ). x % 256) (shr-shr w 8 (8 * k) ∙ ap (λ (m : ℕ). w / 2 ^ m) e)

-- ---- the octets of words

pub length-octets : (ws : List ℕ) → length (octets_of ws) ≡ 8 * length ws
unfolding octets_of
length-octets [] = refl
length-octets (w ∷ ws) = rw (length-append, length-low, length-octets ws) (omega arith)

-- octet j of words
abbrev pub octet_at : List ℕ → ℕ → ℕ
octet_at ws j = get_or ws (j / 8) 0 / 2 ^ (8 * (j % 8)) % 256

pub octet-at : (ws : List ℕ) (j : ℕ) → get_or (octets_of ws) j 0 ≡ octet_at ws j
unfolding octets_of
octet-at [] j = sym (ap (λ (x : ℕ). x % 256) (zero-div (2 ^ (8 * (j % 8)))))
octet-at (w ∷ ws) j = go (octet-at ws (j - 8)) (dec_lt j 8)
  where
    go : get_or (octets_of ws) (j - 8) 0 ≡ octet_at ws (j - 8) → Dec (j < 8) → get_or (low_octets 8 w ++ octets_of ws) j 0 ≡ octet_at (w ∷ ws) j
    go rest (yes h) =
        let q : j / 8 ≡ 0 = omega arith in
        let r : j % 8 ≡ j = omega arith in
        get_or-append (low_octets 8 w) (octets_of ws) 0 j (omega (arith, length-low 8 w)) ∙ low-at 8 w j h ∙ rw (q, r)
    go rest (no f) =
        let e : j ≡ length (low_octets 8 w) + (j - 8) = omega (arith, f, length-low 8 w) in
        let q : j / 8 ≡ suc ((j - 8) / 8) = omega (arith, f) in
        let r : j % 8 ≡ (j - 8) % 8 = omega (arith, f) in
        ap (λ (i : ℕ). get_or (low_octets 8 w ++ octets_of ws) i 0) e
        ∙ get_or-append-add (low_octets 8 w) (octets_of ws) (j - 8) 0 ∙ rest ∙ rw (q, r)

pub octets-octets : (ws : List ℕ) → Octets (octets_of ws)
octets-octets ws j = rw (octet-at ws j) (omega arith)

-- a list of octets is that of words if it is so octet by octet
pub from-words : (ws f : List ℕ) → length f ≡ 8 * length ws → ((j : ℕ) → j < 8 * length ws → octet_at ws j ≡ get_or f j 0) → octets_of ws ≡ f
from-words ws f e h =
    ext_get_or 0 (octets_of ws) f (length-octets ws ∙ sym e) (λ j k. octet-at ws j ∙ h j (rw length-octets at k))

-- ---- the words of octets

pub length-words : (f : List ℕ) (i n : ℕ) → length (words_from f i n) ≡ n
unfolding words_from
length-words f i zero = refl
length-words f i (suc n) = ap suc (length-words f (suc i) n)

pub words-lt : (f : List ℕ) → Octets f → (i n : ℕ) → Words (words_from f i n)
unfolding words_from
words-lt f o i zero k = omega arith
words-lt f o i (suc n) zero = low_first-lt f o _ 8
words-lt f o i (suc n) (suc k) = words-lt f o (suc i) n k

pub words-at : (f : List ℕ) (i n k : ℕ) → k < n → get_or (words_from f i n) k 0 ≡ low_first f (8 * (i + k)) 8
unfolding words_from
words-at f i zero k h = absurd (omega arith)
words-at f i (suc n) zero h = ap (λ (j : ℕ). low_first f (8 * j) 8) (sym (add-zero i))
words-at f i (suc n) (suc k) h =
    let e : suc i + k ≡ i + suc k = omega arith in
    words-at f (suc i) n k (omega arith) ∙ ap (λ (j : ℕ). low_first f (8 * j) 8) e

pub word-at : (f : List ℕ) (n k : ℕ) → k < n → get_or (words_from f 0 n) k 0 ≡ low_first f (8 * k) 8
word-at f n k h = words-at f 0 n k h ∙ ap (λ (j : ℕ). low_first f (8 * j) 8) (omega arith)

-- ---- nothing is lost either way

-- the octets that are the digits of w spell w
spells : (l : List ℕ) (i w n : ℕ) → ((k : ℕ) → k < n → get_or l (i + k) 0 ≡ w / 2 ^ (8 * k) % 256) → low_first l i n ≡ w % 2 ^ (8 * n)
unfolding low_first
spells l i w zero h = omega arith
spells l i w (suc n) h =
    let e : 8 * suc n ≡ 8 + 8 * n = omega arith in
    rw (h n (omega arith), spells l i w n (λ k q. h k (omega arith)), e) (sym (mod-pow-add w 8 (8 * n)))

-- the word that eight octets of words spell
pub word-of-octets : (ws : List ℕ) → Words ws → (i : ℕ) → low_first (octets_of ws) (8 * i) 8 ≡ get_or ws i 0
word-of-octets ws b i =
    spells (octets_of ws) (8 * i) (get_or ws i 0) 8
    (λ k h.
    let q : (8 * i + k) / 8 ≡ i = omega arith in
    let r : (8 * i + k) % 8 ≡ k = omega arith in
    octet-at ws (8 * i + k) ∙ rw (q, r))
    ∙ omega (arith, b i)

-- octet j of the words of octets is the j-th of them
pub octet-kept : (f : List ℕ) → Octets f → (n j : ℕ) → j < 8 * n → octet_at (words_from f 0 n) j ≡ get_or f j 0
octet-kept f o n j h =
    let s : 8 * (j / 8) + j % 8 ≡ j = omega arith in
    rw (word-at f n (j / 8) (omega arith)) (octet-of f o (8 * (j / 8)) 8 (j % 8) (omega arith) ∙ ap (λ (i : ℕ). get_or f i 0) s)

pub octets-back : (f : List ℕ) → Octets f → (n : ℕ) → 8 * n ≤ length f → octets_of (words_from f 0 n) ≡ take (8 * n) f
octets-back f o n h =
    let l = length-words f 0 n in
    from-words (words_from f 0 n) (take (8 * n) f) (length-take-le (8 * n) f h ∙ sym (ap (λ (m : ℕ). 8 * m) l))
    (λ j k. octet-kept f o n j (omega arith) ∙ sym (get_or-take (8 * n) f j 0 (omega arith)))

pub words_back : (ws : List ℕ) → Words ws → words_from (octets_of ws) 0 (length ws) ≡ ws
words_back ws b =
    let l = length-words (octets_of ws) 0 (length ws) in
    ext_get_or 0 (words_from (octets_of ws) 0 (length ws)) ws l
    (λ i h. word-at (octets_of ws) (length ws) i (omega (arith, l)) ∙ word-of-octets ws b i)
