-- `look_up` meets its contract: the row from k on is the row. Assumes nothing.
use Rattle.std.proofs.Common.{◌≡◌, ◌-◌}
use Rattle.rows.specs.Rows.{row_from, row_number}
use Rattle.rows.proofs.look_up.Given as goal

abbrev pub invariant-loop-k : goal.invariant-loop-k
invariant-loop-k l = row_from (64 - l.k) l.k l.rows l.name ≡ row_number l.rows l.name
