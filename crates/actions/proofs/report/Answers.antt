-- `report` meets its contract: its values are the line's. Assumes nothing.
use Rattle.actions.proofs.Keeping.{reported}
use Rattle.actions.proofs.report.Goals as goal

pub returns : goal.returns
returns g c =
    reported _ _ _ _ _ _ c.u64_at.ensures c.u64_at-2.ensures c.report-outcome.ensures
