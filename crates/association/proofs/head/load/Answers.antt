-- `load` meets its contract: each number is read at its place. Assumes nothing.
use mathlib.Core.Path.{refl}
use Rattle.association.specs.Record.{head_of}
use Rattle.association.proofs.head.load.Goals as goal

pub returns : goal.returns
unfolding head_of
returns c = refl
