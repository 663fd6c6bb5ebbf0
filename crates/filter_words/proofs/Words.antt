-- The words of a filter. Assumes nothing.
--     sixty-four-words, word_bound    64 of them, each below 2^64
--     eight-octets                    each spelled by its eight octets
--     word_read                       the word that is read from a filter of 512 octets
--     is_set-in                        a position is set in words where it is set in their octets
--     position-in-word                position p is bit p mod 64 of word p div 64
--     octets-words, words-octets      nothing is lost either way
use mathlib.Core.Path.{◌≡◌, sym, ap, ◌∙◌}
use mathlib.Core.List.{List}
use Prim.Native.Nat.{ℕ, ◌+◌, ◌-◌, ◌*◌, ◌/◌, ◌%◌, ◌^◌, ◌<◌}
use native.Mathlib.Omega.{arith}
use borrow.Author.Tests.{le-leb}
use lib.Dec.{eqb}
use lib.ListN.{length, get_or}
use lib.Pow.{shr-shr, mod-mod-pow, field}
use lib.Seq.{take_all}
use Rattle.filter_rules.specs.Filter.{is_set_in, is_set}
use Rattle.filter_rules.proofs.Adding.{digit}
use Rattle.word_rules.specs.Words.{word_at, words_from, octets_of}
use Rattle.word_rules.proofs.Conversion.{octet-at, length-words, words-lt, word-at, octet-kept, octets-back, words_back}
use Rattle.filter_words.specs.Words.{words_of}
use Rattle.filter_words.specs.Claim.{SixtyFourWords, WordBound, EightOctets, PositionInWord}
use Rattle.filter_words.specs.Laws.{FilterOctetsBack, FilterWordsBack}

-- a bit of a number's lowest octet
digit-octet : (x k : ℕ) → k < 8 → digit (x % 256) k ≡ digit x k
digit-octet x k h =
    let e : 7 - k + 1 + k ≡ 8 = omega arith in
    ap (λ (m : ℕ). digit (x % 2 ^ m) k) (sym e) ∙ ap (λ (y : ℕ). y % 2) (field x (7 - k + 1) k) ∙ mod-mod-pow (x / 2 ^ k) (7 - k) 1

-- a position is set in words where it is set in their octets
pub is_set-in : (ws : List ℕ) (p : ℕ) → is_set (octets_of ws) p ≡ is_set_in 64 ws p
is_set-in ws p =
    let w = get_or ws (p / 64) 0 in
    let q : p / 8 / 8 ≡ p / 64 = omega arith in
    let r : 8 * (p / 8 % 8) + p % 8 ≡ p % 64 = omega arith in
    ap (λ (x : ℕ). eqb x 1)
    (ap (λ (x : ℕ). digit x (p % 8)) (octet-at ws (p / 8) ∙ ap (λ (i : ℕ). get_or ws i 0 / 2 ^ (8 * (p / 8 % 8)) % 256) q)
    ∙ digit-octet (w / 2 ^ (8 * (p / 8 % 8))) (p % 8) (omega arith)
    ∙ ap (λ (x : ℕ). x % 2) (shr-shr w (8 * (p / 8 % 8)) (p % 8) ∙ ap (λ (m : ℕ). w / 2 ^ m) r))

pub sixty-four-words : SixtyFourWords
sixty-four-words f = length-words f 0 64

pub word_bound : WordBound
word_bound f o = words-lt f o 0 64

pub eight-octets : EightOctets
eight-octets f i h = word-at f 64 i h

pub word_read : (f : List ℕ) (i : ℕ) → length f ≡ 512 → i < 64 → word_at f (8 * i) ≡ get_or (words_of f) i 0
word_read f i e h = rw (le-leb (8 * i + 8) (length f) (omega arith)) (sym (eight-octets f i h))

pub position-in-word : PositionInWord
position-in-word f o p h =
    ap (λ (x : ℕ). eqb (digit x (p % 8)) 1) (sym (octet-at (words_of f) (p / 8) ∙ octet-kept f o 64 (p / 8) (omega arith)))
    ∙ is_set-in (words_of f) p

-- ---- nothing is lost either way

pub octets-words : FilterOctetsBack
octets-words f o e = octets-back f o 64 (omega arith) ∙ take_all 512 f (omega arith)

pub words-octets : FilterWordsBack
words-octets ws b e = ap (words_from (octets_of ws) 0) (sym e) ∙ words_back ws b
