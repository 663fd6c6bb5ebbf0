-- `run` meets its contract: the call of its number, on the store or on the octets that keep it. Assumes nothing.
use Rattle.std.proofs.Common.{ap}
use Rattle.actions.specs.Rows.{row_number}
use Rattle.actions.proofs.Keeping.{run_short, run-clear, run-lend, run-report, run-answer}
use Rattle.actions.proofs.run.Goals as goal

pub returns-then-kept-lt4098 : goal.returns-then-kept-lt4098
returns-then-kept-lt4098 g c = run_short _ _ _ c.if-kept-lt4098.true

pub returns-in-Store : goal.returns-in-Store
returns-in-Store g c = run-clear _ _ _ c.if-kept-lt4098.false _ _ (ap row_number c.in-Store.is) c.clear.ensures

pub returns-in-Lend : goal.returns-in-Lend
returns-in-Lend g c = run-lend _ _ _ c.if-kept-lt4098.false _ (ap row_number c.in-Lend.is) c.lend.ensures

pub returns-in-Report : goal.returns-in-Report
returns-in-Report g c = run-report _ _ _ c.if-kept-lt4098.false _ _ c.end-end.ensures (ap row_number c.in-Report.is) c.report.ensures

pub returns-in-Answer : goal.returns-in-Answer
returns-in-Answer g c = run-answer _ _ _ c.if-kept-lt4098.false _ _ c.end-end.ensures (ap row_number c.in-Answer.is) c.answer.ensures
