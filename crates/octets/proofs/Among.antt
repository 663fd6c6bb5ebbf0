-- A number that is one of a list's. Assumes nothing.
use mathlib.Core.Path.{◌≡◌}
use mathlib.Core.Bool.{true, false}
use mathlib.Core.List.{List, ◌∷◌}
use Prim.Native.Nat.{ℕ}
use borrow.Author.Tests.{ne_eqb}
use lib.Dec.{eqb}
use Rattle.octets.specs.Among.{among}

-- a refusal is not 0
pub among-not-zero : (n : ℕ) (ns : List ℕ) → (n ≡ 0 → ⊥) → among n (0 ∷ ns) ≡ true → among n ns ≡ true
among-not-zero n ns f h = let z : eqb n 0 ≡ false = ne_eqb n 0 f in rw z at h
