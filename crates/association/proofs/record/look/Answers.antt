-- `look` meets its contract: the size says which case holds. Assumes nothing.
use mathlib.Core.Path.{ap}
use mathlib.Core.List.{List, []}
use Prim.Native.Nat.{ℕ}
use Rattle.state.specs.Event.{Look}
use Rattle.state.specs.Reply.{Reply}
use Rattle.state.specs.Code.{looked_as}
use Rattle.association.proofs.Records.{wrong_size, right-size}
use Rattle.association.proofs.record.look.Goals as goal

abbrev first : Reply × List ℕ → Reply
first w = w.0

pub returns-then-numbers-ne-NUMBERS : goal.returns-then-numbers-ne-NUMBERS
returns-then-numbers-ne-NUMBERS c = ap first (wrong_size Look [] c.args.numbers.now c.if-numbers-ne-NUMBERS.true)

pub returns : goal.returns
returns c =
    let s = c.args.numbers.now in
    let d = looked_as c.look_at.result c.load.result in
    ap first (right-size Look [] s _ c.if-numbers-ne-NUMBERS.false c.load.ensures d c.look_at.ensures)
