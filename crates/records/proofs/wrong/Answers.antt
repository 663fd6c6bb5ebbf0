-- Each turn sees one record more; once all are seen, what was seen decides.
use Rattle.std.proofs.Common.{sym, ◌∙◌}
use Rattle.records.specs.Records.{records_in}
use Rattle.records.proofs.Slots.{length-in}
use Rattle.records.proofs.Judging.{wrong-by-count, verdict-first, verdict-next, verdict-end}
use Rattle.records.proofs.wrong.Goals as goal

pub returns-then-wrong_count : goal.returns-then-wrong_count
returns-then-wrong_count c = sym (wrong-by-count (records_in c.args.records.now) (rw length-in (sym c.if-wrong_count.ensures)))

pub loop-at-init : goal.loop-at-init
loop-at-init c = verdict-first (records_in c.args.records.now) (rw length-in (sym c.if-wrong_count.ensures))

pub loop-at-preserved : goal.loop-at-preserved
loop-at-preserved c =
    let l = c.loop-at in
    rw c.seen_after-seen.ensures (sym (verdict-next l.seen c.args.records.now l.at c.find-later.result c.loop-at-test.true c.find-later.ensures)) ∙ l.invariant

pub returns : goal.returns
returns c = sym (verdict-end c.loop-at.seen c.args.records.now c.loop-at.at c.loop-at-test.false) ∙ c.loop-at.invariant
