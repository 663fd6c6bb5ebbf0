-- The header is read where nothing refuses.
use mathlib.Core.Path.{◌∙◌}
use Rattle.responder_rules.specs.Answer.{given_as}
use Rattle.records_answer.proofs.Sending.{sound-reading}
use Rattle.records_answer.proofs.datagram.checked.Goals as goal

pub returns : goal.returns
returns c = c.read.ensures ∙ sound-reading (given_as c.args.given c.args.edition) c.in_ok-check.ensures
