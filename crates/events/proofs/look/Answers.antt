-- `look` meets its contract: what is told is what `is_complete` answers. Assumes nothing.
use mathlib.Core.Path.{refl}
use Rattle.events.proofs.look.Goals as goal

pub returns : goal.returns
returns c = record { does = c.in_ok-complete.ensures; kind = refl }
