-- `make` meets its contract: each call has the values of its words. Assumes nothing.
use mathlib.Core.Path.{ap, ◌∙◌}
use Rattle.client_rules.specs.Call.{Call}
use Rattle.client_rules.specs.Numbers.{step_numbers}
use Rattle.changes.proofs.Changing.{change-clear, change-open, change-close, change-sent}
use Rattle.changes.proofs.make.Goals as goal

pub returns-in-Clear : goal.returns-in-Clear
returns-in-Clear c =
    c.clear.ensures ∙ ap (λ (x : Call). step_numbers x c.args.table.now) (change-clear _ _ c.in-Clear.is)

pub returns-in-Open : goal.returns-in-Open
returns-in-Open c =
    c.open.ensures
    ∙ ap (λ (x : Call). step_numbers x c.args.table.now)
    (change-open _ _ _ _ _ _ c.in-Open.is c.bits_at-first.ensures c.bits_at.ensures c.bits_at-in-Open.ensures c.bits_at-in-Open-2.ensures)

pub returns-in-Close : goal.returns-in-Close
returns-in-Close c =
    c.close.ensures ∙ ap (λ (x : Call). step_numbers x c.args.table.now) (change-close _ _ _ c.in-Close.is c.bits_at-first.ensures)

pub returns-in_default : goal.returns-in_default
returns-in_default c =
    c.sent.ensures
    ∙ ap (λ (x : Call). step_numbers x c.args.table.now)
    (change-sent _ _ _ _ c.in_default.not-Clear c.in_default.not-Open c.in_default.not-Close c.bits_at-first.ensures c.u64_at.ensures)
