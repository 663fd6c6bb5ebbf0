-- `write` meets its contract: the header is written and the fields behind it, or nothing is. Assumes nothing.
use mathlib.Core.Path.{sym, ap, ◌∙◌}
use native.Mathlib.Omega.{arith}
use Rattle.header.specs.Header.{header_put}
use Rattle.header.specs.declared.Header.{Header}
use Rattle.header.proofs.RoundTrip.{header-put}
use lib.ListN.{length}
use Rattle.poll_request.specs.Request.{poll_header, Writable}
use Rattle.poll_request.proofs.Requests.{exponent-kept, header-room, fields-behind, request-written}
use Rattle.poll_request.proofs.write.Goals as goal

pub returns : goal.returns
returns c =
    let a = c.args in
    -- what is asked is written
    let w : Writable a.asked (length a.out.now) = record {
      least = c.if-c-lt16.false;
      most = c.if-c-gt512.false;
      four = c.if-c-ne0.false;
      held = omega (arith, c.most_timescale.ensures, c.if-most_timescale-asked.false);
      fits = omega (arith, c.poll_length.ensures, c.if-out-poll_length.false);
    } in
    -- the header stands at the start
    let h = poll_header a.asked a.cookie.0 a.exponent a.interleaved in
    let headed = c.put.ensures
    ∙ ap (λ (h : Header). header_put h a.out.now) (c.poll_header.ensures ∙ exponent-kept a.asked a.cookie.0 a.exponent a.interleaved c.ranges.exponent)
    ∙ header-put h a.out.now (omega (arith, header-room a.asked a.cookie.0 a.exponent a.interleaved a.out.now w, w.fits)) in
    fields-behind a.asked a.cookie.0 a.exponent a.interleaved a.out.now w headed c.write_fields.ensures
    ∙ sym (request-written a.asked a.cookie.0 a.exponent a.interleaved a.out.now w)
