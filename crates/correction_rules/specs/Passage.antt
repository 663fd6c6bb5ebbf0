-- A list of switch calls on one datagram, and what those that were not refused add: W209-16, W209-17.
use Rattle.std.specs.Prelude.{cond, List, [], ◌∷◌, ℕ, ◌+◌, eqb, ℤ, pos, ◌+ℤ◌}
use Rattle.correction_rules.specs.Correct.{corrected}

-- a switch that a datagram passes
pub record Passage : Type 0 where
  pub delay : ℤ
  pub ingress : ℕ
  pub egress : ℕ

abbrev pub passed : Passage → List ℕ → ℕ × List ℕ
passed p s = corrected p.delay p.ingress p.egress s

-- the datagram after them, each on what the one before left
unfoldable pub through : List Passage → List ℕ → List ℕ
through [] s = s
through (p ∷ ps) s = through ps (passed p s).1

-- the delays of those that were not refused
unfoldable pub added_delay : List Passage → List ℕ → ℤ
added_delay [] s = pos 0
added_delay (p ∷ ps) s = cond (eqb (passed p s).0 0) p.delay (pos 0) +ℤ added_delay ps (passed p s).1

-- their port numbers
unfoldable pub added_ports : List Passage → List ℕ → ℕ
added_ports [] s = 0
added_ports (p ∷ ps) s = cond (eqb (passed p s).0 0) (p.ingress + p.egress) 0 + added_ports ps (passed p s).1
