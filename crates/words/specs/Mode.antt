-- The words of a poll's mode: basic or interleaved, and whether it asks for a correction.
use Rattle.std.specs.Prelude.{ℕ, Bool, ◌||◌, List, [], ◌∷◌, ◌++◌}
use Rattle.text.specs.Place.{same_of}

abbrev basic_name : List ℕ
basic_name = 98 ∷ 97 ∷ 115 ∷ 105 ∷ 99 ∷ []

abbrev interleaved_name : List ℕ
interleaved_name = 105 ∷ 110 ∷ 116 ∷ 101 ∷ 114 ∷ 108 ∷ 101 ∷ 97 ∷ 118 ∷ 101 ∷ 100 ∷ []

-- +correction after a name
abbrev corrected : List ℕ → List ℕ
corrected name = name ++ (43 ∷ 99 ∷ 111 ∷ 114 ∷ 114 ∷ 101 ∷ 99 ∷ 116 ∷ 105 ∷ 111 ∷ 110 ∷ [])

unfoldable pub interleaved_word : List ℕ → Bool
interleaved_word word = same_of word interleaved_name || same_of word (corrected interleaved_name)

-- W209-2: the poll asks
unfoldable pub correction_word : List ℕ → Bool
correction_word word = same_of word (corrected basic_name) || same_of word (corrected interleaved_name)

unfoldable pub mode_word : List ℕ → Bool
mode_word word = same_of word basic_name || interleaved_word word || correction_word word
