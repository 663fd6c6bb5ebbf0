-- `loop_verdict` meets its contract: a filter is searched once it is known to be complete. Assumes nothing.
use mathlib.Core.Path.{sym, ap}
use mathlib.Core.List.{[]}
use Rattle.state.specs.Event.{Look}
use Rattle.state.specs.Reply.{Reply}
use Rattle.client.proofs.Lent.{inside}
use Rattle.client.proofs.loop_verdict.Goals as goal

pub contains-requires : goal.contains-requires
contains-requires c = let a = c.args in inside a.association Look [] a.table.now (sym (ap (λ (r : Reply). r.refusal) c.in_ok-complete.ensures))
