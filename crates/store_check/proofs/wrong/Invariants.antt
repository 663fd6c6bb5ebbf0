-- `wrong` meets its contract: the records left to see decide, once the size is right. Assumes nothing.
use mathlib.Core.Path.{◌≡◌}
use Prim.Native.Nat.{◌%◌}
use lib.ListN.{length}
use Rattle.store_rules.specs.Row.{sound_records}
use Rattle.store_rules.proofs.Walks.{rest}
use Rattle.store_check.proofs.wrong.Given as goal

abbrev pub invariant-loop-at : goal.invariant-loop-at
invariant-loop-at l = (l.at % 16 ≡ 0) × (length l.store % 16 ≡ 0) × (sound_records (rest l.store 0) ≡ sound_records (rest l.store l.at))
