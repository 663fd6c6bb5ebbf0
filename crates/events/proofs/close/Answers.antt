-- `close` meets its contract: the test says whether it is open. Assumes nothing.
use mathlib.Core.Path.{refl}
use borrow.Author.Tests.{eq-eqb, ne_eqb}
use Rattle.state.specs.Plain.{closed, place_do}
use Rattle.state.proofs.Changes.{refused, done}
use Rattle.events.proofs.close.Goals as goal

pub returns-then-h-eq0 : goal.returns-then-h-eq0
unfolding place_do
returns-then-h-eq0 c = record { does = refused 7 refl refl (λ datagram f. rw (eq-eqb _ _ c.if-h-eq0.true)); kind = refl }

pub returns : goal.returns
unfolding place_do
returns c =
    rw c.closed_head.ensures
    (record { does = done {p = λ datagram f. closed} (record { leaves = λ datagram f. refl }) (λ datagram f. rw (ne_eqb _ _ c.if-h-eq0.false)) refl; kind = refl })
