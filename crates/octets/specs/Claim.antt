-- The laws of numbers in network order, once for every number of octets n (P-14), and of numbers written one after the other.
use Rattle.std.specs.Prelude.{◌≡◌, List, ◌++◌, ℕ, ◌+◌, ◌*◌, ◌/◌, ◌%◌, ◌^◌, ◌<◌, ◌≤◌, length, take, drop}
use Rattle.octets.specs.Number.{Octets, num, octets}
use Rattle.octets.specs.Piece.{Piece, spelled, width_of, put_all}

-- reading the octets of a number gives the number
abbrev pub NumberBack : Type 0
NumberBack = (n v : ℕ) → v < 256 ^ n → num (octets n v) 0 n ≡ v

-- writing the number that was read gives the octets
abbrev pub OctetsBack : Type 0
OctetsBack = (s : List ℕ) (at n : ℕ) → Octets s → at + n ≤ length s → octets n (num s at n) ≡ take n (drop at s)

-- a number of m + n octets, read and written in two parts
abbrev pub NumberParts : Type 0
NumberParts = (s : List ℕ) (at m n : ℕ) → num s at (m + n) ≡ num s at m * 256 ^ n + num s (at + m) n

abbrev pub OctetsParts : Type 0
OctetsParts = (m n v : ℕ) → octets (m + n) v ≡ octets m (v / 256 ^ n) ++ octets n (v % 256 ^ n)

-- pieces that are written one after the other stand in a row, and the octets after them stay
abbrev pub PiecesWritten : Type 0
PiecesWritten = (s : List ℕ) (ps : List Piece) → width_of ps ≤ length s → put_all s 0 ps ≡ spelled ps ++ drop (width_of ps) s
