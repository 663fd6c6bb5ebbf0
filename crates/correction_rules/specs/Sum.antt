-- W209-13: the sum of 16-bit words that the checksum complement keeps.
use Rattle.std.specs.Prelude.{List, [], ◌∷◌, ℕ, ◌+◌, ◌*◌}

-- the sum of all 16-bit words, highest octet first; an odd last octet counts as with a zero behind it, but no datagram has one
unfoldable pub word_sum : List ℕ → ℕ
word_sum [] = 0
word_sum (x ∷ []) = x * 256
word_sum (x ∷ y ∷ s) = x * 256 + y + word_sum s
