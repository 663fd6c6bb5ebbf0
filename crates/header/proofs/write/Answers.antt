-- `write` meets its contract: at each `return` the tests that led there say which case holds. Assumes nothing.
use mathlib.Core.Path.{sym, ap, ◌∙◌}
use mathlib.Core.List.{List}
use mathlib.Core.Logic.{inl, inr}
use Prim.Native.Nat.{ℕ}
use native.Mathlib.Omega.{arith}
use Rattle.header.specs.Edition.{Within}
use Rattle.header.proofs.Layouts.{within}
use Rattle.header.proofs.RoundTrip.{header-put}
use Rattle.header.proofs.Refusals.{wrong-leap, wrong-mode, past-limits, no_room, in-room}
use Rattle.header.proofs.write.Goals as goal
use Rattle.header.proofs.write.Goals.{Else-over_limits}

pub returns-then-header-gt3 : goal.returns-then-header-gt3
returns-then-header-gt3 c = let a = c.args in sym (wrong-leap a.header a.out.now c.if-header-gt3.true)

pub returns-then-header-lt3 : goal.returns-then-header-lt3
returns-then-header-lt3 c = let a = c.args in sym (wrong-mode a.header a.out.now (omega arith) (inl (omega arith)))

pub returns-then-header-gt4 : goal.returns-then-header-gt4
returns-then-header-gt4 c = let a = c.args in sym (wrong-mode a.header a.out.now (omega arith) (inr (omega arith)))

pub returns-then-over_limits : goal.returns-then-over_limits
returns-then-over_limits c =
    let a = c.args in
    sym (past-limits a.header a.out.now (omega arith) (omega arith) (omega arith) (sym c.over_limits.ensures ∙ c.if-over_limits.true))

-- the header can be held
held : (c : Else-over_limits) → let h = c.args.header in Within h.edition h.stratum h.timescale h.flags
held c = within c.args.header.edition (sym c.over_limits.ensures ∙ c.if-over_limits.false)

pub returns-then-out-lt48 : goal.returns-then-out-lt48
returns-then-out-lt48 c =
    let a = c.args in
    sym (no_room a.header a.out.now (omega arith) (omega arith) (omega arith) (held (goal.at.returns-then-out-lt48 c).Else-over_limits) (omega arith))

pub returns : goal.returns
returns c =
    let a = c.args in
    ap (λ (l : List ℕ). (0, l)) (c.put.ensures ∙ header-put a.header a.out.now (omega arith))
    ∙ sym (in-room a.header a.out.now (omega arith) (omega arith) (omega arith) (held (goal.at.returns c).Else-over_limits) (omega arith))
