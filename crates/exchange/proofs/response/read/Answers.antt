-- `read` meets its contract: a datagram that is not sound is refused by its number, and a sound one's header is read. Assumes nothing.
use mathlib.Core.Path.{sym, ap, ◌∙◌}
use Rattle.std.specs.Prelude.{None}
use Prim.Native.Nat.{ℕ}
use native.Mathlib.Omega.{arith}
use Rattle.std.proofs.lemmas.Result.{err_from_is_err_and}
use Rattle.refusal.proofs.Numbers.{number_above_none}
use Rattle.header.specs.Header.{header_of}
use Rattle.header.proofs.Layouts.{header-at}
use Rattle.header.proofs.Refusals.{passes}
use Rattle.chain.proofs.Datagrams.{header-passes}
use Rattle.exchange.specs.Response.{Response, refused_response}
use Rattle.exchange.proofs.Responses.{read-accepted, read-refused, read-alike}
use Rattle.exchange.proofs.response.read.Goals as goal

pub returns-in_err-sound : goal.returns-in_err-sound
returns-in_err-sound c t4 =
    let a = c.args in
    let e = c.in_err-sound.ensures in
    let above = number_above_none c.in_err-sound.field-0.0 in
    let p = err_from_is_err_and c.from_residual.result c.from_residual.ensures.1 in
    rw (p.1, p.2)
    (ap (λ (n : ℕ). (refused_response n t4, None)) e ∙ sym (read-refused a.edition a.datagram.now t4 (λ z. omega (arith, e))))

pub returns : goal.returns
returns c t4 =
    let a = c.args in
    let s = a.datagram.now in
    let passed = sym c.in_ok-sound.ensures in
    let h = c.fields-h.ensures ∙ header-at a.edition s (passes s 4 (header-passes s 4 passed)).low in
    let o = c.chunk_in-chunk.result in
    rw (c.is_interleaved.ensures, h) (ap (λ (r : Response). (r, o)) (read-alike o (header_of a.edition s) t4) ∙ read-accepted a.edition s t4 c.chunk_in-chunk.ensures passed)
