-- `read` meets its contract: what passes the check has the 48 octets. Assumes nothing.
use mathlib.Core.Path.{sym, ap, ◌∙◌}
use Rattle.std.specs.Prelude.{Ok}
use Rattle.header.proofs.Layouts.{header-at}
use Rattle.header.proofs.Refusals.{passes}
use Rattle.header.proofs.read.Goals as goal

pub returns : goal.returns
returns c =
    let a = c.args in
    let e = sym c.in_ok-check.ensures in
    rw e (ap Ok (c.fields.ensures ∙ header-at a.edition a.datagram.now (passes _ _ e).low))
