-- `check` meets its contract: each turn tests one association, if it is selected. Assumes nothing.
use mathlib.Core.Path.{◌≡◌, sym, ap, ◌∙◌}
use mathlib.Core.Bool.{not, ◌&&◌}
use native.Mathlib.Omega.{arith}
use lib.Dec.{eqb}
use Rattle.state.specs.Reply.{Reply}
use Rattle.client_rules.specs.Numbers.{seen_numbers}
use Rattle.client_rules.specs.Select.{all_selected, in_range_seen, complete_seen}
use Rattle.client.proofs.Selection.{left-tested, left_passed, left_end, refused-seven, refused_none}
use Rattle.client.proofs.publishing.check.Goals as goal
use Rattle.client.proofs.publishing.check.Goals.{After-loop-a, Joined-is_selected, then-is_selected, else-is_selected}

-- a test after association a: it was made, or a is not selected
pub loop-a-preserved : goal.loop-a-preserved
loop-a-preserved c =
    let b = sym c.is_selected.ensures in
    elim c.if-is_selected.branch [
      | then-is_selected w ↦
          let t = b ∙ w.if-is_selected.true in (
            left-tested in_range_seen _ _ _ c.loop-a.in_range (omega arith) c.loop-a.invariant.0 _ _ t (sym (w.is_in_range-in_range.ensures ∙ ap (λ (r : Reply). not (eqb r.refusal 6)) w.look-seen.ensures)) w.in_range-is,
            left-tested complete_seen _ _ _ c.loop-a.complete (omega arith) c.loop-a.invariant.1 _ _ t (sym (w.is_complete-complete.ensures ∙ ap (λ (r : Reply). eqb r.refusal 0 && r.complete) w.look-seen.ensures)) w.complete-is,
          )
      | else-is_selected w ↦
          let t = b ∙ w.if-is_selected.false in (
            left_passed in_range_seen _ _ _ c.loop-a.in_range (omega arith) c.loop-a.invariant.0 _ t w.in_range-is,
            left_passed complete_seen _ _ _ c.loop-a.complete (omega arith) c.loop-a.invariant.1 _ t w.complete-is,
          )
    ]

-- after the last, what was found so far is the whole test
in-range : (c : After-loop-a) → c.loop-a.in_range ≡ all_selected in_range_seen (seen_numbers c.args.table.now) c.args.selected 16 0
in-range c = left_end in_range_seen _ _ c.loop-a.a _ (omega arith) (omega arith) c.loop-a.invariant.0

complete : (c : After-loop-a) → c.loop-a.complete ≡ all_selected complete_seen (seen_numbers c.args.table.now) c.args.selected 16 0
complete c = left_end complete_seen _ _ c.loop-a.a _ (omega arith) (omega arith) c.loop-a.invariant.1

pub returns-then-not-complete : goal.returns-then-not-complete
returns-then-not-complete c = refused-seven _ _ (sym c.if-not-in_range.false ∙ in-range (goal.at.returns-then-not-complete c).After-loop-a) (sym c.if-not-complete.true ∙ complete (goal.at.returns-then-not-complete c).After-loop-a)

pub returns : goal.returns
returns c = refused_none _ _ (sym c.if-not-in_range.false ∙ in-range (goal.at.returns c).After-loop-a) (sym c.if-not-complete.false ∙ complete (goal.at.returns c).After-loop-a)
