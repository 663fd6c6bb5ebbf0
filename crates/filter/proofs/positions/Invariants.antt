-- `positions`: the first 2 * g positions are written.
use Rattle.std.proofs.Common.{◌≡◌, ℕ, ◌*◌, ◌<◌, length, get_or}
use Rattle.filter_rules.specs.Positions.{positions}
use Rattle.filter.proofs.positions.Given as goal

abbrev pub invariant-loop-g : goal.invariant-loop-g
invariant-loop-g l = (length l.id ≡ 15) × (length l.out ≡ 10) × ((j : ℕ) → j < 2 * l.g → get_or l.out j 0 ≡ get_or (positions l.id) j 0)
