-- Parts of a text, the first place of an octet, and the pieces that stand between separators.
use Rattle.std.specs.Prelude.{ℕ, zero, suc, ◌-◌, Bool, true, false, cond, ◌&&◌, ◌||◌, List, [], ◌∷◌, length, take, drop, ◌==◌, nat_le}
use Rattle.std.specs.Bool.{beq}

-- the octets from..to, none where the text has no such part
abbrev pub part_of : List ℕ → ℕ → ℕ → List ℕ
part_of s from to = cond (nat_le to (length s)) (take (to - from) (drop from s)) []

-- a tab and the return of a CRLF line end are spaces
unfoldable pub plain_of : ℕ → ℕ
plain_of x = cond (x == 9 || x == 13) 32 x

-- an octet is this one; or, where `same` is false, it is not
abbrev pub fits : ℕ → Bool → ℕ → Bool
fits octet same x = beq (plain_of x == octet) same

-- what is left from the first such octet on
unfoldable pub onward : ℕ → Bool → List ℕ → List ℕ
onward octet same [] = []
onward octet same (x ∷ xs) = cond (fits octet same x) (x ∷ xs) (onward octet same xs)

-- what stands before it
unfoldable pub ahead : ℕ → Bool → List ℕ → List ℕ
ahead octet same s = take (length s - length (onward octet same s)) s

-- its place, looked for from `at` on; the end where there is none
abbrev pub octet_place : List ℕ → ℕ → ℕ → Bool → ℕ
octet_place s at octet same = length s - length (onward octet same (drop at s))

-- the piece of a number, from 0 on, of a text that begins with a piece
unfoldable pub piece_from : ℕ → ℕ → List ℕ → List ℕ
piece_from separator zero s = ahead separator true s
piece_from separator (suc n) s = piece_from separator n (onward separator false (onward separator true s))

-- of any text: the separators at its start are passed over
unfoldable pub piece_of : List ℕ → ℕ → ℕ → List ℕ
piece_of s number separator = piece_from separator number (onward separator false s)

-- two texts are the same
unfoldable pub same_of : List ℕ → List ℕ → Bool
same_of [] [] = true
same_of [] (y ∷ ys) = false
same_of (x ∷ xs) [] = false
same_of (x ∷ xs) (y ∷ ys) = x == y && same_of xs ys
