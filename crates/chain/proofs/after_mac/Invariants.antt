-- `after_mac` meets its contract: no field before the cursor is wrong, so that what follows it ends as the whole. Assumes nothing.
use mathlib.Core.Path.{◌≡◌}
use Prim.Native.Nat.{◌-◌}
use lib.ListN.{length}
use Rattle.chain.specs.Chain.{step_refusal, walk}
use Rattle.chain.proofs.after_mac.Given as goal

abbrev pub invariant-loop-next : goal.invariant-loop-next
invariant-loop-next l = step_refusal (walk l.rest l.cursor.at).stop ≡ step_refusal (walk l.rest l.start).stop

abbrev pub decreases-loop-next : goal.decreases-loop-next
decreases-loop-next l = length l.rest - l.cursor.at
