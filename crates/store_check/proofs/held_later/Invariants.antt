-- `held_later` meets its contract: the records that are left to look at decide. Assumes nothing.
use mathlib.Core.Path.{◌≡◌}
use Prim.Native.Nat.{◌+◌, ◌*◌}
use Rattle.octets.specs.Number.{num}
use Rattle.store_rules.specs.Row.{held}
use Rattle.store_rules.proofs.Walks.{rest}
use Rattle.store_check.proofs.held_later.Given as goal

abbrev pub invariant-loop-i : goal.invariant-loop-i
invariant-loop-i l = held (num l.store l.at 8) (rest l.store (l.at + 16)) ≡ held (num l.store l.at 8) (rest l.store (l.at + 16 * l.i))
