-- `sound` meets its contract: the chain is looked at only where the header passes. Assumes nothing.
use mathlib.Core.Path.{sym, ap, ◌∙◌}
use Rattle.std.proofs.lemmas.Result.{err_from_is_err_and}
use Rattle.chain.specs.Chain.{fields_refusal, sound_refusal}
use Rattle.octets.proofs.Parts.{take_rest}
use Rattle.chain.proofs.Datagrams.{fields-decide}
use Rattle.chain.proofs.Refusals.{first-refusal}
use Rattle.chain.proofs.sound.Goals as goal

pub returns-in_err-check : goal.returns-in_err-check
unfolding sound_refusal
returns-in_err-check c =
    let p = err_from_is_err_and c.from_residual.result c.from_residual.ensures.1 in rw (p.1, p.2) (first-refusal _ _ _ c.in_err-check.ensures)

pub returns : goal.returns
returns c =
    let s = c.args.datagram.now in
    c.check-2.ensures ∙ ap fields_refusal (take_rest s 48) ∙ sym (fields-decide s c.args.wanted_mode (sym c.in_ok-check.ensures))
