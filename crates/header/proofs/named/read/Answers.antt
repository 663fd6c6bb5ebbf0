-- `read` meets its contract: the number names an edition, or none. Assumes nothing.
use mathlib.Core.Path.{◌∙◌}
use Rattle.std.specs.Prelude.{Err}
use Rattle.header.specs.declared.edition.Edition.{Edition}
use Rattle.header.specs.Header.{header_of, refusal, reading, read_named}
use Rattle.header.proofs.Editions.{by_edition}
use Rattle.header.proofs.named.read.Goals as goal

pub returns : goal.returns
unfolding read_named
returns c =
    let s = c.args.datagram.now in
    c.read.ensures ∙ by_edition (λ (e : Edition). reading (refusal s c.args.wanted_mode) (header_of e s)) (Err 6) c.args.edition _ c.in_ok-edition.ensures
