-- `from` gives the call that leaves what the number leaves. Assumes nothing.
use mathlib.Core.Path.{ap, ◌∙◌}
use Rattle.std.specs.Option.{unwrap_or}
use Rattle.std.specs.Prelude.{Option}
use Rattle.actions.specs.Kept.{kept_after}
use Rattle.actions.specs.Rows.{row_number}
use Rattle.actions.specs.declared.Action.{Action}
use Rattle.actions.specs.declared.Action.TheVariants.{Answer}
use Rattle.actions.proofs.ByNumber.{same-kept}
use Rattle.actions.proofs.ActionFromUsize.from.Goals as goal

pub returns : goal.returns
returns c line kept =
    ap (λ (a : Action). kept_after (row_number a) line kept) (c.unwrap_or.ensures ∙ ap (λ (o : Option Action). unwrap_or o Answer) c.at.ensures)
    ∙ same-kept c.args.call line kept
