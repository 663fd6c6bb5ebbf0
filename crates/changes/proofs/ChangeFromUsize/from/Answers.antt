-- `from` gives the call whose table is that of the number. Assumes nothing.
use mathlib.Core.Path.{ap, ◌∙◌}
use Rattle.std.specs.Option.{unwrap_or}
use Rattle.std.specs.Prelude.{Option}
use Rattle.client_rules.specs.Call.{Call}
use Rattle.client_rules.specs.Numbers.{step_numbers}
use Rattle.changes.specs.Change.{call_of, table_after}
use Rattle.changes.specs.Rows.{row_number}
use Rattle.changes.specs.declared.Change.{Change}
use Rattle.changes.specs.declared.Change.TheVariants.{Sent}
use Rattle.changes.proofs.ByNumber.{same-call}
use Rattle.changes.proofs.ChangeFromUsize.from.Goals as goal

pub returns : goal.returns
unfolding table_after
returns c line table =
    ap (λ (k : Call). (step_numbers k table).1)
    (ap (λ (d : Change). call_of (row_number d) line) (c.unwrap_or.ensures ∙ ap (λ (o : Option Change). unwrap_or o Sent) c.at.ensures)
    ∙ same-call c.args.call line)
