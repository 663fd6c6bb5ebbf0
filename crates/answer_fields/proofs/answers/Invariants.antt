-- `answers` meets its contract: what answers a field is written, and the rest after it; a field of a type that is not answered changes nothing.
-- Assumes nothing.
use Prim.Native.Nat.{◌-◌}
use lib.ListN.{length}
use Rattle.answer_fields.proofs.Passes.{Passing}
use Rattle.answer_fields.proofs.answers.Given as goal

abbrev pub invariant-loop-field : goal.invariant-loop-field
invariant-loop-field l = Passing l.given.request.now l.given.filter.now l.given.information.now l.initial.out l.cursor.at l.met l.at l.out

abbrev pub decreases-loop-field : goal.decreases-loop-field
decreases-loop-field l = length l.given.request.now - l.cursor.at
