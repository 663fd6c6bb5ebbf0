-- `answer_into` meets its contract: the edition is the line's. Assumes nothing.
use mathlib.Core.Path.{◌∙◌}
use Rattle.actions.proofs.answering.answer_into.Goals as goal

pub returns : goal.returns
returns c = c.answer.ensures ∙ rw c.bits_at.ensures
