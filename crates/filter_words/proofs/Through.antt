-- What is done to words is what is done to their octets: the laws of W210-6. Assumes nothing.
--     adding-in-words, verdict-in-words    positions are added and tested
--     taking-in-words, serving-in-words    chunks are taken and served
--     union-in-words, weight-in-words      the union and the weight
--     fresh-in-words                       the filter that publishing begins with
--     length-add_all_in                      adding keeps the size
use mathlib.Core.Path.{◌≡◌, refl, sym, ap, ap₂, ◌∙◌}
use mathlib.Core.Bool.{Bool, ◌&&◌}
use mathlib.Core.List.{List, [], ◌∷◌, ◌++◌}
use Prim.Native.Nat.{ℕ, zero, suc, ◌+◌, ◌*◌, ◌/◌, ◌%◌, ◌^◌, ◌<◌}
use native.Mathlib.Nat.{add-zero, zero-add, suc-add, suc_inj, div-eq_of_lt, mod-eq_of_lt, mul-mod_left, zero-div}
use native.Mathlib.Omega.{arith}
use lib.Bits.{bit_or, or_shr, or_mod, or_zero_r}
use lib.ListN.{length, get_or, set, length-set, get_or-append}
use lib.Pow.{pow-add, pow-lt, shl-shr}
use lib.Seq.{set-append_left}
use Rattle.octets.proofs.Parts.{replicate-at}
use Rattle.filter_rules.specs.Filter.{fresh_filter, add_position_in, add_position, add_all_in, add_all, contains_all_in, union}
use Rattle.filter_rules.proofs.Adding.{length-fresh}
use Rattle.filter_rules.proofs.Uniting.{cons_same, union-zeros}
use Rattle.word_rules.specs.Words.{low_octets, octets_of}
use Rattle.word_rules.proofs.Conversion.{length-low, octets-octets, from-words}
use Rattle.word_rules.proofs.Taking.{taken-words, served-words}
use Rattle.filter_words.specs.Words.{fresh_words, ones_of}
use Rattle.filter_words.specs.Laws.{AddingInWords, UnionInWords, WeightInWords, TakingInWords, ServingInWords, VerdictInWords, FreshInWords}
use Rattle.filter_words.proofs.Words.{is_set-in, words-octets}
use Rattle.filter_words.proofs.Counting.{weight-words}

-- ---- adding

-- a list with the bits m set in element i
abbrev or_at : List ℕ → ℕ → ℕ → List ℕ
or_at l i m = set l i (bit_or (get_or l i 0) m)

or_left : (p l : List ℕ) (i m : ℕ) → i < length p → or_at (p ++ l) i m ≡ or_at p i m ++ l
or_left p l i m h =
    set-append_left p l i (bit_or (get_or (p ++ l) i 0) m) h ∙ ap (λ (x : ℕ). set p i (bit_or x m) ++ l) (get_or-append p l 0 i h)

or_right : (p l : List ℕ) (i m : ℕ) → or_at (p ++ l) (length p + i) m ≡ p ++ or_at l i m
or_right [] l i m = rw zero-add
or_right (a ∷ p) l i m = rw suc-add (ap (λ (r : List ℕ). a ∷ r) (or_right p l i m))

-- bit b of octet i of a number
low-added : (n w i b : ℕ) → i < n → b < 8 → low_octets n (bit_or w (2 ^ (b + 8 * i))) ≡ or_at (low_octets n w) i (2 ^ b)
unfolding low_octets
low-added zero w i b h l = absurd (omega arith)
low-added (suc n) w zero b h l =
    let k : 2 ^ b < 2 ^ 8 = pow-lt l in
    rw add-zero
    (cons_same
    (or_mod w (2 ^ b) 8 ∙ ap (bit_or (w % 256)) (mod-eq_of_lt k))
    (ap (low_octets n) (or_shr w (2 ^ b) 8 ∙ ap (bit_or (w / 256)) (div-eq_of_lt k) ∙ or_zero_r (w / 256))))
low-added (suc n) w (suc i) b h l =
    let j = b + 8 * i in
    let e : b + 8 * suc i ≡ j + 8 = omega arith in
    let s : 2 ^ (b + 8 * suc i) ≡ 2 ^ j * 2 ^ 8 = ap (λ (m : ℕ). 2 ^ m) e ∙ pow-add 2 j 8 in
    rw s
    (cons_same
    (or_mod w (2 ^ j * 2 ^ 8) 8 ∙ ap (bit_or (w % 256)) (mul-mod_left (2 ^ j) (2 ^ 8)) ∙ or_zero_r (w % 256))
    (ap (low_octets n) (or_shr w (2 ^ j * 2 ^ 8) 8 ∙ ap (bit_or (w / 256)) (shl-shr (2 ^ j) 8)) ∙ low-added n (w / 256) i b (omega arith) l))

-- bit b of octet k of word i
added : (ws : List ℕ) (i k b : ℕ) → k < 8 → b < 8 → octets_of (or_at ws i (2 ^ (b + 8 * k))) ≡ or_at (octets_of ws) (k + 8 * i) (2 ^ b)
unfolding octets_of
added [] i k b h l = refl
added (w ∷ ws) zero k b h l =
    rw (add-zero k)
    (ap (λ (p : List ℕ). p ++ octets_of ws) (low-added 8 w k b h l)
    ∙ sym (or_left (low_octets 8 w) (octets_of ws) k (2 ^ b) (omega (arith, length-low 8 w))))
added (w ∷ ws) (suc i) k b h l =
    let e : length (low_octets 8 w) + (k + 8 * i) ≡ k + 8 * suc i = omega (arith, length-low 8 w) in
    ap (λ (r : List ℕ). low_octets 8 w ++ r) (added ws i k b h l)
    ∙ sym (or_right (low_octets 8 w) (octets_of ws) (k + 8 * i) (2 ^ b))
    ∙ ap (λ (n : ℕ). or_at (low_octets 8 w ++ octets_of ws) n (2 ^ b)) e

pub add_position-in : (ws : List ℕ) (p : ℕ) → octets_of (add_position_in 64 ws p) ≡ add_position (octets_of ws) p
add_position-in ws p =
    let q : p % 64 ≡ p % 8 + 8 * (p / 8 % 8) = omega arith in
    let r : p / 8 % 8 + 8 * (p / 64) ≡ p / 8 = omega arith in
    ap (λ (m : ℕ). octets_of (or_at ws (p / 64) (2 ^ m))) q ∙ added ws (p / 64) (p / 8 % 8) (p % 8) (omega arith) (omega arith)
    ∙ ap (λ (i : ℕ). or_at (octets_of ws) i (2 ^ (p % 8))) r

pub adding-in-words : AddingInWords
unfolding add_all_in
adding-in-words ws [] = refl
adding-in-words ws (p ∷ ps) = adding-in-words (add_position_in 64 ws p) ps ∙ ap (λ (f : List ℕ). add_all f ps) (add_position-in ws p)

pub length-add_all_in : (ws ps : List ℕ) → length (add_all_in 64 ws ps) ≡ length ws
unfolding add_all_in
length-add_all_in ws [] = refl
length-add_all_in ws (p ∷ ps) = length-add_all_in (add_position_in 64 ws p) ps ∙ length-set ws (p / 64) _

-- ---- testing

pub verdict-in-words : VerdictInWords
unfolding contains_all_in
verdict-in-words ws [] = refl
verdict-in-words ws (p ∷ ps) = ap₂ (λ (a b : Bool). a && b) (sym (is_set-in ws p)) (verdict-in-words ws ps)

-- ---- chunks

pub taking-in-words : TakingInWords
taking-in-words = taken-words

pub serving-in-words : ServingInWords
serving-in-words = served-words

-- ---- the union

low_or : (n a b : ℕ) → low_octets n (bit_or a b) ≡ union (low_octets n a) (low_octets n b)
unfolding low_octets union
low_or zero a b = refl
low_or (suc n) a b = cons_same (or_mod a b 8) (ap (low_octets n) (or_shr a b 8) ∙ low_or n (a / 256) (b / 256))

union-append : (p q f g : List ℕ) → length p ≡ length q → union (p ++ f) (q ++ g) ≡ union p q ++ union f g
unfolding union
union-append [] [] f g e = refl
union-append [] (b ∷ q) f g e = absurd (omega arith)
union-append (a ∷ p) [] f g e = absurd (omega arith)
union-append (a ∷ p) (b ∷ q) f g e = ap (λ (l : List ℕ). bit_or a b ∷ l) (union-append p q f g (suc_inj e))

pub union-in-words : UnionInWords
unfolding union octets_of
union-in-words [] vs = refl
union-in-words (a ∷ ws) [] = sym (union-zeros (low_octets 8 a ++ octets_of ws) 0)
union-in-words (a ∷ ws) (b ∷ vs) =
    ap₂ (λ (p l : List ℕ). p ++ l) (low_or 8 a b) (union-in-words ws vs)
    ∙ sym (union-append (low_octets 8 a) (low_octets 8 b) (octets_of ws) (octets_of vs) (length-low 8 a ∙ sym (length-low 8 b)))

-- ---- the weight, and a fresh filter

pub weight-in-words : WeightInWords
weight-in-words ws b e = sym (weight-words (octets_of ws) (octets-octets ws) ∙ ap ones_of (words-octets ws b e))

pub fresh-in-words : FreshInWords
fresh-in-words =
    from-words fresh_words fresh_filter length-fresh
    (λ j h.
    rw (replicate-at {A = ℕ} 64 (j / 8) 0, replicate-at {A = ℕ} 512 j 0) (ap (λ (x : ℕ). x % 256) (zero-div (2 ^ (8 * (j % 8))))))
