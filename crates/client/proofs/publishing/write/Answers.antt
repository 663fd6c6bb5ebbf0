-- `write` meets its contract: the joined filters, the own ID added, over the first 512 octets. Assumes nothing.
use mathlib.Core.Path.{ap, ◌∙◌}
use mathlib.Core.List.{List}
use Prim.Native.Nat.{ℕ}
use Rattle.filter_rules.specs.Filter.{add_all}
use Rattle.filter_rules.specs.Positions.{positions}
use Rattle.client.proofs.Returned.{over_first}
use borrow.Author.Rules.{rules}
use Rattle.client.proofs.publishing.write.Goals as goal

pub returns : goal.returns
returns c =
    let a = c.args in
    c.put.ensures
    ∙ over_first a.out.now _ _ (search rules) (c.with_id-published.ensures ∙ ap (λ (f : List ℕ). add_all f (positions a.id.now)) c.join-joined.ensures) c.requires.2
