-- Octets as words of 64 bits and back, the one conversion of W203-1 and W210-6. A word is spelled by eight octets, the first of them the
-- lowest.
use Rattle.std.specs.Prelude.{cond, List, [], ◌∷◌, ◌++◌, ℕ, zero, suc, ◌+◌, ◌*◌, ◌/◌, ◌%◌, ◌^◌, ◌<◌, length, get_or, take, drop, replicate}
use Rattle.octets.specs.Part.{has_room, overwrite}

-- each element is a word, as in every slice of u64
abbrev pub Words : List ℕ → Type 0
Words ws = (i : ℕ) → get_or ws i 0 < 2 ^ 64

-- FROM OCTETS TO WORDS

-- the number that the n octets from i on spell, the first the lowest
unfoldable pub low_first : List ℕ → ℕ → ℕ → ℕ
low_first l i zero = 0
low_first l i (suc n) = get_or l (i + n) 0 * 2 ^ (8 * n) + low_first l i n

-- the word of the eight octets from `at` on, 0 where they run past the end
abbrev pub word_at : List ℕ → ℕ → ℕ
word_at s at = cond (has_room s at 8) (low_first s at 8) 0

-- n words of octets, from word i on
unfoldable pub words_from : List ℕ → ℕ → ℕ → List ℕ
words_from f i zero = []
words_from f i (suc n) = low_first f (8 * i) 8 ∷ words_from f (suc i) n

-- FROM WORDS TO OCTETS

-- the n lowest octets of a number, the lowest first
unfoldable pub low_octets : ℕ → ℕ → List ℕ
low_octets zero w = []
low_octets (suc n) w = w % 256 ∷ low_octets n (w / 256)

-- the octets of words, eight of each
unfoldable pub octets_of : List ℕ → List ℕ
octets_of [] = []
octets_of (w ∷ ws) = low_octets 8 w ++ octets_of ws

-- PARTS

-- n words from word `at` on become those of the octets of `source` from `from` on; nothing where either lacks the room
abbrev pub take_words : List ℕ → ℕ → List ℕ → ℕ → ℕ → List ℕ
take_words ws at source from n = cond (has_room source from (8 * n)) (overwrite ws at (words_from (drop from source) 0 n) n) ws

-- the first n octets of s as words give them: eight at a time, and those that are left one at a time
abbrev pub by_words : List ℕ → ℕ → List ℕ
by_words s n = octets_of (words_from s 0 (n / 8)) ++ take (n % 8) (drop (8 * (n / 8)) s)

-- the n octets of `source` from `from` on go to `to`, so read; nothing where either lacks the room
abbrev pub copy_by_words : List ℕ → ℕ → List ℕ → ℕ → ℕ → List ℕ
copy_by_words s to source from n = cond (has_room source from n) (overwrite s to (by_words (drop from source) n) n) s

-- as many zeros
abbrev pub zeroed : List ℕ → List ℕ
zeroed ws = replicate (length ws) 0
