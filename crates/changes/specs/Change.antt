-- The client's call that a line is, and the table after it. A call's number is that of its row, from 0 on.
use Rattle.std.specs.Prelude.{Bool, cond, List, [], ◌∷◌, ℕ, eqb}
use Rattle.words.specs.Line.{number_at, bits_at, signed_at, octets_at}
use Rattle.text.specs.Place.{piece_of, same_of}
use Rattle.client_rules.specs.Call.{Call, clear_table, open_one, close_one, poll, sent, receive}
use Rattle.client_rules.specs.Numbers.{step_numbers}

-- a word is `interleaved`; any other is basic
abbrev pub interleaved_at : List ℕ → ℕ → Bool
interleaved_at line word = same_of (piece_of line word 32) (105 ∷ 110 ∷ 116 ∷ 101 ∷ 114 ∷ 108 ∷ 101 ∷ 97 ∷ 118 ∷ 101 ∷ 100 ∷ [])

-- poll A COOKIE EXPONENT MODE OUTPUT
unfoldable pub poll_of : List ℕ → Call
poll_of line = poll (bits_at 8 line 1) (number_at line 2) (signed_at line 3) (interleaved_at line 4) (octets_at line 5)

-- receive A T4 OCTETS
unfoldable pub receive_of : List ℕ → Call
receive_of line = receive (bits_at 8 line 1) (octets_at line 3) (number_at line 2)

-- clear; open A EDITION TIMESCALE C; close A; sent A T1
unfoldable pub change_of : ℕ → List ℕ → Call
change_of call line =
    cond (eqb call 7) clear_table
    (cond (eqb call 8) (open_one (bits_at 8 line 1) (bits_at 8 line 2) (bits_at 8 line 3) (bits_at 16 line 4))
    (cond (eqb call 9) (close_one (bits_at 8 line 1))
    (sent (bits_at 8 line 1) (number_at line 2))))

abbrev pub call_of : ℕ → List ℕ → Call
call_of call line = cond (eqb call 10) (poll_of line) (cond (eqb call 12) (receive_of line) (change_of call line))

unfoldable pub table_after : ℕ → List ℕ → List ℕ → List ℕ
table_after call line table = (step_numbers (call_of call line) table).1
