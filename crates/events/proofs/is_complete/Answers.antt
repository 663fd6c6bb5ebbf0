-- `is_complete` meets its contract: the test says whether it is open. Assumes nothing.
use mathlib.Core.Path.{refl}
use lib.Dec.{eqb}
use borrow.Author.Tests.{eq-eqb, ne_eqb}
use Rattle.state.specs.Rules.{look_reply}
use Rattle.state.specs.Plain.{opened, place_do}
use Rattle.state.specs.Numbers.{opened_in}
use Rattle.state.proofs.Ranges.{open-ranges}
use Rattle.state.proofs.Flags.{all_first}
use Rattle.state.proofs.Numbers.{head-back}
use Rattle.state.proofs.Changes.{refused, done}
use Rattle.events.proofs.is_complete.Goals as goal

pub returns-then-h-eq0 : goal.returns-then-h-eq0
unfolding place_do
returns-then-h-eq0 c = refused 7 refl refl (λ datagram f. rw (eq-eqb _ _ c.if-h-eq0.true))

pub returns : goal.returns
unfolding place_do
returns c =
    let h = c.args.h in
    let o = open-ranges c.args.h c.requires c.if-h-eq0.false in
    done {a = look_reply (eqb h.taken 512)} {p = λ datagram f. opened (opened_in h f)} (record { leaves = λ datagram f. rw (head-back h f o) })
    (λ datagram f. rw (ne_eqb _ _ c.if-h-eq0.false, all_first h.taken o.taken-high))
    refl
