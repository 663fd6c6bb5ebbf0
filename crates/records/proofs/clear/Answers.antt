-- A row of the wrong size is left as it was.
use Rattle.std.proofs.Common.{sym}
use Rattle.records.proofs.Moves.{clear-done, clear-refused}
use Rattle.records.proofs.clear.Goals as goal

pub returns-then-wrong_count : goal.returns-then-wrong_count
returns-then-wrong_count c = clear-refused c.args.records.now (sym c.if-wrong_count.ensures)

pub returns : goal.returns
returns c = clear-done c.args.records.now c.fill.new.self (sym c.if-wrong_count.ensures) (c.fill.ensures.after (λ y e. e))
