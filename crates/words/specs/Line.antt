-- The words of a line, which stand between spaces.
use Rattle.std.specs.Prelude.{ℕ, ◌+◌, ◌%◌, ◌^◌, true, List, replicate, ℤ}
use Rattle.std.specs.Int.{Width, w8, w16}
use mir.Val.{bits, to_z}
use Rattle.words.specs.Numeral.{word_value}
use Rattle.words.specs.OctetWord.{word_octets}
use Rattle.text.specs.Place.{piece_of, octet_place}

-- the number that a word is, of at most 64 bits
unfoldable pub number_at : List ℕ → ℕ → ℕ
number_at line word = (word_value 113 (piece_of line word 32)).value

-- the same of so many bits
abbrev pub bits_at : ℕ → List ℕ → ℕ → ℕ
bits_at bits line word = number_at line word % 2 ^ bits

-- the number with a sign that a word is, of a width and by the width's letter
abbrev pub signed_bits_at : Width → ℕ → List ℕ → ℕ → ℤ
signed_bits_at w letter line word = to_z w ((word_value letter (piece_of line word 32)).value % 2 ^ bits w)

unfoldable pub signed_at : List ℕ → ℕ → ℤ
signed_at line word = signed_bits_at w8 115 line word

unfoldable pub signed16_at : List ℕ → ℕ → ℤ
signed16_at line word = signed_bits_at w16 116 line word

-- the word whose letter stands in the second word of a row; past the last where none does
unfoldable pub word_of : List ℕ → List ℕ → ℕ → List ℕ
word_of line row letter = piece_of line (octet_place (piece_of row 1 32) 0 letter true + 1) 32

-- the octets that a word is, at most 4,096
unfoldable pub octets_at : List ℕ → ℕ → List ℕ
octets_at line word = word_octets (piece_of line word 32) (replicate 4096 0)
