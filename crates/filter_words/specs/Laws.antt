-- W210-6 and W210-7: what is done to words is what is done to the octets, through the one conversion, and the conversion loses nothing
-- either way. `words_of f` are the words of a filter f, `octets_of ws` the octets of words ws. Adding and the test are one definition
-- over the width of an element; union is one for both.
use Rattle.std.specs.Prelude.{◌≡◌, List, ℕ, ◌*◌, length}
use Rattle.octets.specs.Number.{Octets}
use Rattle.octets.specs.Part.{copy_at}
use Rattle.word_rules.specs.Words.{Words, octets_of, take_words, copy_by_words}
use Rattle.filter_rules.specs.Filter.{fresh_filter, add_all_in, add_all, contains_all_in, contains_all, union, weight}
use Rattle.filter_words.specs.Words.{words_of, fresh_words, ones_of}

-- W210-6: adding
abbrev pub AddingInWords : Type 0
AddingInWords = (ws ps : List ℕ) → octets_of (add_all_in 64 ws ps) ≡ add_all (octets_of ws) ps

-- union
abbrev pub UnionInWords : Type 0
UnionInWords = (ws vs : List ℕ) → octets_of (union ws vs) ≡ union (octets_of ws) (octets_of vs)

-- weight
abbrev pub WeightInWords : Type 0
WeightInWords = (ws : List ℕ) → Words ws → length ws ≡ 64 → ones_of ws ≡ weight (octets_of ws)

-- chunk taking: n words from word `at` on are 8n octets from octet 8 * at on
abbrev pub TakingInWords : Type 0
TakingInWords = (ws source : List ℕ) → Octets source → (at from n : ℕ)
    → octets_of (take_words ws at source from n) ≡ copy_at (octets_of ws) (8 * at) source from (8 * n)

-- chunk serving, of any size and from any octet on
abbrev pub ServingInWords : Type 0
ServingInWords = (out f : List ℕ) → Octets f → (to from n : ℕ) → copy_by_words out to f from n ≡ copy_at out to f from n

-- the verdict's test
abbrev pub VerdictInWords : Type 0
VerdictInWords = (ws ps : List ℕ) → contains_all_in 64 ws ps ≡ contains_all (octets_of ws) ps

-- W210-7: from octets to words and back
abbrev pub FilterOctetsBack : Type 0
FilterOctetsBack = (f : List ℕ) → Octets f → length f ≡ 512 → octets_of (words_of f) ≡ f

-- from words to octets and back
abbrev pub FilterWordsBack : Type 0
FilterWordsBack = (ws : List ℕ) → Words ws → length ws ≡ 64 → words_of (octets_of ws) ≡ ws

-- G-8: besides, the filter that publishing begins with
abbrev pub FreshInWords : Type 0
FreshInWords = octets_of fresh_words ≡ fresh_filter
