-- A report for the record that has the cookie, and one for a cookie that none has.
use Rattle.std.proofs.Common.{ap, ◌∙◌}
use Rattle.std.proofs.lemmas.Result.{err_from_is_err_and}
use Rattle.records.specs.Records.{records_in}
use Rattle.records.proofs.Slots.{length-in}
use Rattle.records.proofs.Reporting.{settled, report-absent, report-found}
use Rattle.records.proofs.report.Goals as goal

pub returns-in_err-records : goal.returns-in_err-records
returns-in_err-records c =
    let rs = c.args.records.now in
    let p = err_from_is_err_and c.from_residual.result c.from_residual.ensures.1 in
    rw (p.1, p.2)
    (ap (settled rs c.find-at.result) c.in_err-records.ensures
    ∙ report-found rs c.args.cookie.0 c.args.time c.find-at.result c.find-at.ensures c.if-at-records.true c.wrong-is_wrong.result c.wrong-is_wrong.ensures)

pub returns-then-at-records : goal.returns-then-at-records
returns-then-at-records c =
    let rs = c.args.records.now in
    ap (settled rs c.find-at.result) c.in_ok-records.ensures
    ∙ report-found rs c.args.cookie.0 c.args.time c.find-at.result c.find-at.ensures c.if-at-records.true c.wrong-is_wrong.result c.wrong-is_wrong.ensures

pub returns : goal.returns
returns c =
    rw c.absent.ensures
    (report-absent (records_in c.args.records.now) c.args.cookie.0 c.args.time c.find-at.result c.wrong-is_wrong.result c.wrong-is_wrong.ensures c.find-at.ensures (rw length-in c.if-at-records.false))
