-- `look` meets its contract: the record is lent. Assumes nothing.
use mathlib.Core.Path.{ap}
use mathlib.Core.List.{List, []}
use Prim.Native.Nat.{ℕ}
use Rattle.state.specs.Reply.{Reply}
use Rattle.state.specs.Event.{Look}
use Rattle.client.proofs.Lent.{bad-size, bad-number, part-looked}
use Rattle.client.proofs.table.look.Goals as goal

pub returns-then-table-ne-NUMBERS : goal.returns-then-table-ne-NUMBERS
returns-then-table-ne-NUMBERS c =
    let a = c.args in
    ap (λ (w : Reply × List ℕ). w.0) (bad-size a.association Look [] a.table.now c.if-table-ne-NUMBERS.true)

pub returns-then-association-gt15 : goal.returns-then-association-gt15
returns-then-association-gt15 c =
    let a = c.args in
    ap (λ (w : Reply × List ℕ). w.0) (bad-number a.association Look [] a.table.now c.if-table-ne-NUMBERS.false c.if-association-gt15.true)

pub returns : goal.returns
returns c =
    let a = c.args in
    part-looked a.association Look [] a.table.now c.if-table-ne-NUMBERS.false _ c.if-association-gt15.false c.look.ensures
