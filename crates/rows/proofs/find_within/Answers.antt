-- `find_within` meets its contract. Assumes nothing.
use Rattle.rows.proofs.Finding.{call_long, call_at}
use Rattle.rows.proofs.find_within.Goals as goal

pub returns-then-length-line : goal.returns-then-length-line
returns-then-length-line c = call_long _ _ _ c.if-length-line.true

pub returns : goal.returns
returns c = call_at _ _ _ c.if-length-line.false _ c.part.ensures c.find.result c.find.ensures
