-- `change_of` meets its contract: the ranges decide. Assumes nothing.
use mathlib.Core.Path.{sym, ap, ◌∙◌}
use mathlib.Core.Bool.{Bool, true, not}
use mathlib.Core.List.{List}
use Prim.Native.Nat.{ℕ}
use lib.Dec.{eqb}
use Rattle.state.specs.Change.{refuse}
use Rattle.state.specs.Code.{event_by}
use Rattle.state.specs.Event.{Event}
use Rattle.state.specs.Kind.{Kind, kind_for}
use Rattle.state.specs.Reply.{Reply}
use Rattle.state.specs.declared.head.Head.{Head}
use Rattle.state.proofs.Changes.{changed-in-range, changed-out-of-range}
use Rattle.events.proofs.change_of.Goals as goal

pub change_in_range-requires : goal.change_in_range-requires
change_in_range-requires g c = sym c.in_range.ensures ∙ c.if-in_range.true

-- the kind goes with it, and that what refuses is told by its number
module _ (e : Event) where
  abbrev in_kind : ((datagram f : List ℕ) → Reply × (Head × List ℕ)) → (((datagram f : List ℕ) → Reply × (Head × List ℕ)) × Kind) × Bool
  in_kind x = ((x, kind_for e), true)

pub returns-then-in_range : goal.returns-then-in_range
returns-then-in_range g c =
    let w = c.change_in_range.ensures in
    rw (w.0.kind, w.1) (ap (in_kind (event_by g.R.RefusedBy.as_number c.args.event)) (changed-in-range _ _ _ _ c.in_range.ensures c.if-in_range.true w.0.does))

pub returns : goal.returns
returns g c =
    let e = event_by g.R.RefusedBy.as_number c.args.event in
    let six = c.«of».ensures in
    rw (ap (λ (n : ℕ). not (eqb n 0)) six) (ap (in_kind e) (changed-out-of-range e _ _ _ c.in_range.ensures c.if-in_range.false (ap (λ (n : ℕ). refuse n c.args.h) six)))
