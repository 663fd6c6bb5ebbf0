-- `apply` meets its contract: the size says which case holds, and a refusal stores nothing. Assumes nothing.
use mathlib.Core.Path.{ap, ◌∙◌}
use mathlib.Core.List.{List}
use Prim.Native.Nat.{ℕ}
use mathlib.Core.Bool.{Bool, true}
use borrow.Author.Tests.{eqb-false, not-true}
use Rattle.std.specs.Prelude.{Ok}
use Rattle.std.proofs.lemmas.Result.{err_from_is_err_and}
use Rattle.state.specs.Code.{event_by, changed_by}
use Rattle.state.specs.Event.{Event}
use Rattle.state.specs.Kind.{Kind, kind_for}
use Rattle.state.specs.Reply.{Reply}
use Rattle.state.specs.declared.head.Head.{Head}
use Rattle.state.specs.Change.{refuse}
use Rattle.association.proofs.Records.{wrong_size, right-size, refused, stored}
use Rattle.association.proofs.record.apply.Goals as goal
use mathlib.Core.Path.{refl}

-- what is left, with the kind of the event's reply, and that what refuses is told by its number
abbrev in_kind : Event → Reply × List ℕ → ((Reply × List ℕ) × Kind) × Bool
in_kind e w = ((w, kind_for e), true)

-- the change alone, its kind alone, and whether it is told
abbrev Changes : Type 0
Changes = (datagram f : List ℕ) → Reply × (Head × List ℕ)

abbrev does : (Changes × Kind) × Bool → Changes
does w = w.0.0

abbrev kind : (Changes × Kind) × Bool → Kind
kind w = w.0.1

abbrev told : (Changes × Kind) × Bool → Bool
told w = w.1

pub returns-then-numbers-ne-NUMBERS : goal.returns-then-numbers-ne-NUMBERS
returns-then-numbers-ne-NUMBERS g c =
    let e = event_by g.R.RefusedBy.as_number c.args.event in
    let l = c.args.numbers.now in
    rw c.«of».ensures (ap (in_kind e) (wrong_size e _ l c.if-numbers-ne-NUMBERS.true))

pub returns-in_err-change : goal.returns-in_err-change
returns-in_err-change g c =
    let a = c.args in
    let n = g.R.RefusedBy.as_number c.in_err-change.field-0.0 in
    let e = event_by g.R.RefusedBy.as_number a.event in
    let h = c.load-h.result in
    let not-0 = ap told c.in_err-change.ensures in
    let p = err_from_is_err_and c.from_residual.result c.from_residual.ensures.1 in
    rw (p.1, p.2, not-0)
    (ap (in_kind e) (refused (refuse n h) h a.datagram.now a.numbers.now (eqb-false _ _ (not-true _ not-0))
    ∙ right-size e _ _ h c.if-numbers-ne-NUMBERS.false c.load-h.ensures (refuse n h) (ap does c.in_err-change.ensures)))

pub returns : goal.returns
returns g c =
    let a = c.args in
    let e = event_by g.R.RefusedBy.as_number a.event in
    let h = c.load-h.result in
    let d = changed_by g.R.RefusedBy.as_number (Ok c.in_ok-change.change) h in
    rw (ap kind c.in_ok-change.ensures)
    (ap (in_kind e) (stored d h a.datagram.now a.numbers.now refl _ _ c.store.ensures c.fill.ensures
    ∙ right-size e _ _ h c.if-numbers-ne-NUMBERS.false c.load-h.ensures d (ap does c.in_ok-change.ensures)))
