-- Where none is to leave, the records stay until the fresh cookie joins.
use Rattle.std.proofs.Common.{◌≡◌, List, length, sym, ap, ◌∙◌, arith}
use Rattle.store_rules.specs.Row.{Record}
use Rattle.records.specs.Records.{records_in, leave_records, join_records}
use Rattle.std.specs.Option.{unwrap_or}
use Rattle.records.proofs.Slots.{length-in}
use Rattle.records.proofs.Moves.{leave-past}
use Rattle.records_answer.proofs.replace.Goals as goal
use Rattle.records_answer.proofs.replace.Goals.{in-Some, in_default}

pub returns : goal.returns
returns c =
    let rs = c.args.records.now in
    let left : records_in c.match-leaving.records ≡ leave_records (records_in rs) (unwrap_or c.args.leaving (length rs)) =
    elim c.match-leaving.branch [
      | in-Some w ↦ rw (w.records-is, w.in-Some.is) w.leave.ensures
      | in_default w ↦ rw (w.records-is, w.in_default.is) (sym (leave-past (records_in rs) (length rs) (omega (arith, length-in rs))))
    ] in
    c.join.ensures ∙ ap (λ (l : List Record). join_records l c.args.fresh_cookie.0) left
