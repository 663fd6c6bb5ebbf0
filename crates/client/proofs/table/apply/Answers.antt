-- `apply` meets its contract: the record is lent to the event and comes back in its place. Assumes nothing.
use mathlib.Core.Path.{ap}
use mathlib.Core.Bool.{Bool}
use mathlib.Core.List.{List}
use Prim.Native.Nat.{ℕ}
use Rattle.state.specs.Kind.{Kind}
use Rattle.state.specs.Reply.{Reply}
use Rattle.client.proofs.Lent.{bad-size, bad-number, part-back}
use Rattle.client.proofs.table.apply.Goals as goal

pub returns-then-table-ne-NUMBERS : goal.returns-then-table-ne-NUMBERS
returns-then-table-ne-NUMBERS c = let a = c.args in bad-size a.association _ a.datagram.now a.table.now c.if-table-ne-NUMBERS.true

pub returns-then-association-gt15 : goal.returns-then-association-gt15
returns-then-association-gt15 c = let a = c.args in bad-number a.association _ a.datagram.now a.table.now c.if-table-ne-NUMBERS.false c.if-association-gt15.true

pub returns : goal.returns
returns c =
    let a = c.args in
    part-back a.association _ a.datagram.now a.table.now c.if-table-ne-NUMBERS.false _ _ c.if-association-gt15.false (ap (λ (w : ((Reply × List ℕ) × Kind) × Bool). w.0.0) c.apply.ensures)
