-- `write` meets its contract: header and fields stand one after the other. Assumes nothing.
use Rattle.responder.proofs.Writing.{request-size, answer-put}
use mathlib.Core.Path.{◌∙◌}
use native.Mathlib.Omega.{arith}
use Rattle.header.proofs.RoundTrip.{header-put}
use Rattle.responder.proofs.write.Goals as goal

pub returns : goal.returns
returns c =
    let a = c.args in
    let g = a.given in
    let put = c.put.ensures ∙ header-put a.header a.out.now (omega (arith, (request-size _ c.requires.0).0, c.requires.3)) in
    answer-put a.header g.request.now g.filter.now g.information.now a.out.now c.requires.0 c.requires.3 c.requires.1 c.requires.2 put a.header.edition c.write.ensures
