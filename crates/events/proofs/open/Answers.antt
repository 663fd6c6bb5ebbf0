-- `open` meets its contract: the tests say which case holds. Assumes nothing.
use mathlib.Core.Path.{◌≡◌, refl, sym, ◌∙◌}
use mathlib.Core.Bool.{◌&&◌, and-eq-true_iff}
use borrow.Author.Tests.{eq-eqb, ne_eqb}
use lib.Dec.{leb}
use Rattle.header.specs.Edition.{is_edition, edition_of, most_timescale}
use Rattle.state.specs.Rules.{offered}
use Rattle.state.specs.Plain.{Place, refuse_at, place_do}
use Rattle.state.specs.Event.{Open}
use Rattle.state.proofs.Changes.{by_place, refused, done}
use Rattle.events.proofs.Placed.{opened-fresh}
use Rattle.events.proofs.open.Goals as goal

pub returns-then-not-is_openable : goal.returns-then-not-is_openable
unfolding place_do
returns-then-not-is_openable c =
    let a = c.args in
    let no = sym c.is_openable.ensures ∙ c.if-not-is_openable.true in
    record { does = refused 6 refl refl (λ datagram f. by_place (λ (p : Place). place_do (Open a.edition a.timescale a.chunk) datagram p ≡ refuse_at 6 p) a.h f (rw no) (rw no)); kind = refl }

pub returns-then-h-ne0 : goal.returns-then-h-ne0
unfolding place_do
returns-then-h-ne0 c = record { does = refused 7 refl refl (λ datagram f. rw (ne_eqb _ _ c.if-h-ne0.true, sym c.is_openable.ensures ∙ c.if-not-is_openable.false)); kind = refl }

pub returns : goal.returns
unfolding place_do
returns c =
    let a = c.args in
    let offers = sym c.is_openable.ensures ∙ c.if-not-is_openable.false in
    rw c.closed_head.ensures
    (record { does = done (opened-fresh a.h a.edition a.timescale a.chunk ((and-eq-true_iff (is_edition a.edition) (leb a.timescale (most_timescale (edition_of a.edition)))).0 ((and-eq-true_iff (is_edition a.edition && leb a.timescale (most_timescale (edition_of a.edition))) (offered a.chunk)).0 offers).0).0) (λ datagram f. rw (eq-eqb _ _ c.if-h-ne0.false, offers)) refl; kind = refl })
