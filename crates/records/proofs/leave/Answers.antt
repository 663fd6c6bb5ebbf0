-- Past the end none leaves.
use Rattle.std.proofs.Common.{sym, arith}
use Rattle.records.specs.Records.{records_in}
use Rattle.records.proofs.Slots.{length-in}
use Rattle.records.proofs.Moves.{leave-past, leave-moved}
use Rattle.records.proofs.leave.Goals as goal

pub returns-then-at-n : goal.returns-then-at-n
returns-then-at-n c = leave-moved c.args.records.now c.copy_within.new.self c.args.at c.if-at-n.true c.copy_within.ensures.after

pub returns-else-at-n : goal.returns-else-at-n
returns-else-at-n c = let rs = c.args.records.now in sym (leave-past (records_in rs) c.args.at (omega (arith, length-in rs)))
