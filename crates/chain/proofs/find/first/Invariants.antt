-- `first` meets its contract: no field before the cursor is of the type, so that the first one from there on is the answer. Assumes nothing.
use mathlib.Core.Path.{◌≡◌}
use Prim.Native.Nat.{◌-◌}
use lib.ListN.{length}
use Rattle.chain.specs.Field.{fields_from, first_of}
use Rattle.chain.proofs.find.first.Given as goal

abbrev pub invariant-loop-field : goal.invariant-loop-field
invariant-loop-field l = first_of l.kind (fields_from l.datagram l.cursor.at) ≡ first_of l.kind (fields_from l.datagram 48)

abbrev pub decreases-loop-field : goal.decreases-loop-field
decreases-loop-field l = length l.datagram - l.cursor.at
