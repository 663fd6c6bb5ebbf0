-- Which call a line is by the rows of calls, and what is wrong with a line that is none.
use Rattle.std.specs.Prelude.{cond, ◌||◌, List, [], ◌∷◌, ℕ, zero, suc, ◌+◌, eqb, ltb, length}
use Rattle.octets.specs.Number.{get_at}
use Rattle.words.specs.Numeral.{word_value}
use Rattle.words.specs.OctetWord.{write_of}
use Rattle.text.specs.Place.{part_of, piece_of, same_of}

-- the number of a line's call, from 0 on; and what is wrong with which word of the line, counted from 1
pub record Found : Type 0 where
  pub call : ℕ
  pub word : ℕ
  pub problem : ℕ

-- a call's number, and what is wrong with which word, counted from 1
abbrev pub found : ℕ → ℕ → ℕ → Found
found call word problem = record { call = call; word = word; problem = problem }

-- neither basic nor interleaved is 10
unfoldable pub mode_problem : List ℕ → ℕ
mode_problem word =
    cond (same_of word (98 ∷ 97 ∷ 115 ∷ 105 ∷ 99 ∷ []) || same_of word (105 ∷ 110 ∷ 116 ∷ 101 ∷ 114 ∷ 108 ∷ 101 ∷ 97 ∷ 118 ∷ 101 ∷ 100 ∷ [])) 0 10

unfoldable pub octets_problem : List ℕ → ℕ
octets_problem word = (write_of word []).0.problem

-- what is wrong with a word for a letter: where there is none, or a minus sign, the word is left over, 3; a missing word is 2
unfoldable pub problem_of : ℕ → List ℕ → ℕ
problem_of letter word =
    cond (eqb letter 0 || eqb letter 45) (cond (eqb (length word) 0) 0 3)
    (cond (eqb (length word) 0) 2
    (cond (eqb letter 109) (mode_problem word)
    (cond (eqb letter 73 || eqb letter 79) (octets_problem word)
    (word_value letter word).problem)))

-- a letter's word stands one further on, since the first is the call's name
abbrev pub problem_at : ℕ → List ℕ → List ℕ → ℕ
problem_at i line signature = problem_of (get_at signature i 1) (piece_of line (i + 1) 32)

-- the first problem among so many letters from i on
unfoldable pub fault_from : ℕ → ℕ → ℕ → List ℕ → List ℕ → Found
fault_from zero i call line signature = found call 0 0
fault_from (suc n) i call line signature =
    cond (eqb (problem_at i line signature) 0) (fault_from n (i + 1) call line signature)
    (found call (i + 2) (problem_at i line signature))

-- one word past the last letter is looked at too
abbrev pub fault_of : ℕ → List ℕ → List ℕ → Found
fault_of call line signature = fault_from (length signature + 1) 0 call line signature

-- the first row with a name among so many from k on
unfoldable pub row_from : ℕ → ℕ → List ℕ → List ℕ → ℕ
row_from zero k rows name = k
row_from (suc n) k rows name = cond (same_of (piece_of (piece_of rows k 10) 0 32) name) k (row_from n (k + 1) rows name)

-- 64 is no row
abbrev pub row_number : List ℕ → List ℕ → ℕ
row_number rows name = row_from 64 0 rows name

-- an unknown call is 1
abbrev pub found_at : ℕ → List ℕ → List ℕ → Found
found_at call rows line = cond (eqb call 64) (found 64 1 1) (fault_of call line (piece_of (piece_of rows call 10) 1 32))

unfoldable pub found_of : List ℕ → List ℕ → Found
found_of rows line = cond (eqb (length (piece_of line 0 32)) 0) (found 64 0 0) (found_at (row_number rows (piece_of line 0 32)) rows line)

-- no call where something is wrong
abbrev pub call_in : Found → ℕ
call_in f = cond (eqb f.problem 0) f.call 64

-- a line longer than its octets is too long
unfoldable pub call_number : List ℕ → List ℕ → ℕ → ℕ
call_number rows line n = cond (ltb (length line) n) 64 (call_in (found_of rows (part_of line 0 n)))
