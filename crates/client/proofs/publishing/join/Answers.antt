-- `join` meets its contract: each turn unites the words of one filter, if it is selected. Assumes nothing.
use mathlib.Core.Path.{◌≡◌, refl, sym, ap, ◌∙◌}
use mathlib.Core.Bool.{cond}
use mathlib.Core.List.{List}
use Prim.Native.Nat.{ℕ, ◌+◌, ◌-◌}
use native.Mathlib.Omega.{arith}
use lib.ListN.{length}
use Rattle.word_rules.specs.Words.{octets_of}
use Rattle.filter_rules.specs.Filter.{union}
use Rattle.filter_rules.specs.Publishing.{bit, selected_from, selected_associations, joined}
use Rattle.client_rules.specs.Numbers.{filter_words, seen_numbers}
use Rattle.client_rules.specs.Select.{filters_of}
use Rattle.filter_words.proofs.Through.{fresh-in-words}
use Rattle.client_rules.proofs.Published.{length-picked}
use Rattle.client.proofs.Selection.{octets-picked, join-next, join-end}
use Rattle.client.proofs.Lent.{filter-is}
use Rattle.client.proofs.publishing.join.Goals as goal
use Rattle.client.proofs.publishing.join.Goals.{Joined-is_selected, then-is_selected, else-is_selected}

pub loop-a-init : goal.loop-a-init
loop-a-init c = (ap length c.fresh-joined.ensures ∙ refl, ap (λ (f : List ℕ). joined (filters_of (seen_numbers c.args.table.now)) f (selected_associations c.args.selected)) (ap octets_of c.fresh-joined.ensures ∙ fresh-in-words))

-- one association: the words of its filter are united if it is selected
turn : (c : Joined-is_selected)
    → c.if-is_selected.joined ≡ cond (bit c.loop-a.a c.args.selected) (union c.loop-a.joined (filter_words c.loop-a.a c.args.table.now)) c.loop-a.joined
turn c =
    let a = c.args in
    let b = sym c.is_selected.ensures in
    elim c.if-is_selected.branch [
      | then-is_selected w ↦ w.joined-is ∙ w.union.ensures ∙ ap (union c.loop-a.joined) (filter-is c.loop-a.a a.table.now (omega arith) c.requires) ∙ sym (rw (b ∙ w.if-is_selected.true))
      | else-is_selected w ↦ w.joined-is ∙ sym (rw (b ∙ w.if-is_selected.false))
    ]

pub loop-a-preserved : goal.loop-a-preserved
loop-a-preserved c =
    let a = c.args in
    let w = turn c in (
      ap length w ∙ length-picked (bit c.loop-a.a a.selected) c.loop-a.joined _ ∙ c.loop-a.invariant.0,
      ap (λ (f : List ℕ). joined (filters_of (seen_numbers a.table.now)) f (selected_from a.selected (16 - (c.loop-a.a + 1)) (c.loop-a.a + 1)))
          (ap octets_of w ∙ octets-picked (bit c.loop-a.a a.selected) c.loop-a.joined (filter_words c.loop-a.a a.table.now))
          ∙ sym (join-next (seen_numbers a.table.now) a.selected c.loop-a.a (omega arith) (octets_of c.loop-a.joined)) ∙ c.loop-a.invariant.1,
    )

pub returns : goal.returns
returns c =
    let e : c.loop-a.a ≡ 16 = omega arith in
    sym (join-end _ _ c.loop-a.a (octets_of c.loop-a.joined) e) ∙ c.loop-a.invariant.1
