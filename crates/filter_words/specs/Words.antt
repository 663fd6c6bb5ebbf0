-- A filter as 64 words of 64 bits, W203-1 and W210-1. Word i is spelled by octets 8i to 8i + 7, the first of them
-- the lowest, so that position p is weight 2^(p mod 64) of word p div 64.
use mathlib.Core.List.{List, map, sum}
use Rattle.std.specs.Prelude.{ℕ, ◌+◌, replicate}
use Rattle.std.specs.Int.Count.{ones}
use Rattle.word_rules.specs.Words.{words_from}

-- the words of a filter; `octets_of` leads back
abbrev pub words_of : List ℕ → List ℕ
words_of f = words_from f 0 64

abbrev pub fresh_words : List ℕ
fresh_words = replicate 64 0

-- W203-2, W203-3: the ones of all words together
abbrev pub ones_of : List ℕ → ℕ
ones_of ws = sum ◌+◌ 0 (map ones ws)
