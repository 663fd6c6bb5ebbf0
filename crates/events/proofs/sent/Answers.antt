-- `sent` meets its contract: the tests say which case holds, and open numbers in range come back from their place. Assumes nothing.
use mathlib.Core.Path.{◌≡◌, refl, ◌∙◌}
use borrow.Author.Tests.{eq-eqb, eqb-false}
use Rattle.state.specs.Rules.{plain_reply}
use Rattle.state.specs.Plain.{Place, opened, reported, refuse_at, place_do}
use Rattle.state.specs.Numbers.{request_in, opened_in}
use Rattle.state.specs.Event.{Sent}
use Rattle.state.proofs.Ranges.{edition-back, open-ranges}
use Rattle.state.proofs.Flags.{count-first}
use Rattle.state.proofs.Numbers.{cookie-back, saved-back}
use Rattle.state.proofs.Changes.{by_place, refused, done}
use Rattle.events.proofs.Placed.{reports}
use Rattle.octets.proofs.Tests.{or-none}
use Rattle.events.proofs.sent.Goals as goal

pub returns-then-t1-eq0 : goal.returns-then-t1-eq0
unfolding place_do
returns-then-t1-eq0 c =
    let a = c.args in
    let no = eq-eqb _ _ c.if-t1-eq0.true in
    record { does = refused 6 refl refl (λ datagram f. by_place (λ (p : Place). place_do (Sent a.t1) datagram p ≡ refuse_at 6 p) a.h f (rw no) (rw no)); kind = refl }

pub returns-then-h-request : goal.returns-then-h-request
returns-then-h-request c =
    let a = c.args in
    record { does = refused 7 refl refl (λ datagram f. reports a.h a.t1 c.if-t1-eq0.false datagram f ∙ rw c.if-h-request.true); kind = refl }

pub returns : goal.returns
returns c =
    let a = c.args in
    let o = open-ranges a.h c.requires (eqb-false _ _ (or-none _ _ (or-none _ _ c.if-h-request.false).0).0) in
    record {
      does =
          done {a = plain_reply 0} {p = λ datagram f. opened (reported a.t1 (opened_in a.h f) (request_in a.h))}
          (record { leaves = λ datagram f. rw (count-first a.h.taken, cookie-back a.h.last.0, saved-back a.h o.saved, edition-back a.h.state o.edition) })
          (λ datagram f. reports a.h a.t1 c.if-t1-eq0.false datagram f ∙ rw c.if-h-request.false)
          refl;
      kind = refl;
    }
