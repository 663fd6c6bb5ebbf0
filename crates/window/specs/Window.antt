-- The part of a trace that a program holds while it reads on. Ours: no document has it.
use Rattle.std.specs.Prelude.{cond, ◌||◌, List, [], ℕ, ◌-◌, leb, ltb, length, take, drop, replicate}
use Rattle.std.proofs.Math.Seq.{paste}

unfoldable pub empty_window : List ℕ
empty_window = replicate 131072 0

-- nothing was read yet
abbrev pub new_window : ℕ × List ℕ
new_window = (0, empty_window)

-- the octets from `at` to `count` at the start, and how many they are
unfoldable pub kept : List ℕ → (at count : ℕ) → ℕ × List ℕ
kept s at count = cond (ltb (length s) count || ltb count at) (0, s) (count - at, paste s 0 (drop at s) (count - at))

-- the octets up to `count`, none where there are fewer
unfoldable pub held : List ℕ → ℕ → List ℕ
held s count = cond (leb count (length s)) (take count s) []
