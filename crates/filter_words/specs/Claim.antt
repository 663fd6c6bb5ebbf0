-- The laws of a filter's words, W203-1 and W203-3, and the weight, B-6, as the number of bits set.
use Rattle.std.specs.Prelude.{◌≡◌, List, ℕ, ◌*◌, ◌<◌, length, get_or}
use Rattle.std.specs.Int.Count.{ones}
use Rattle.octets.specs.Number.{Octets}
use Rattle.filter_rules.specs.Filter.{is_set_in, is_set, weight}
use Rattle.word_rules.specs.Words.{Words, low_first}
use Rattle.filter_words.specs.Words.{words_of, ones_of}

-- there are 64 of them
abbrev pub SixtyFourWords : Type 0
SixtyFourWords = (f : List ℕ) → length (words_of f) ≡ 64

-- each below 2^64
abbrev pub WordBound : Type 0
WordBound = (f : List ℕ) → Octets f → Words (words_of f)

-- word i is what octets 8i to 8i + 7 spell
abbrev pub EightOctets : Type 0
EightOctets = (f : List ℕ) (i : ℕ) → i < 64 → get_or (words_of f) i 0 ≡ low_first f (8 * i) 8

-- position p is bit p mod 64 of word p div 64
abbrev pub PositionInWord : Type 0
PositionInWord = (f : List ℕ) → Octets f → (p : ℕ) → p < 4096 → is_set f p ≡ is_set_in 64 (words_of f) p

-- B-6: the positions that are set are as many as the ones of the number that the filter's octets spell
abbrev pub BitsSet : Type 0
BitsSet = (f : List ℕ) → Octets f → weight f ≡ ones (low_first f 0 512)

-- W203-3
abbrev pub WeightOfWords : Type 0
WeightOfWords = (f : List ℕ) → Octets f → weight f ≡ ones_of (words_of f)
