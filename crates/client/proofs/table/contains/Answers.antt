-- `contains` meets its contract: the words of the record's filter are lent. Assumes nothing.
use mathlib.Core.Path.{ap, ◌∙◌}
use mathlib.Core.List.{List}
use Prim.Native.Nat.{ℕ}
use Rattle.filter_rules.specs.Filter.{contains_all_in}
use Rattle.filter_words.proofs.Through.{verdict-in-words}
use Rattle.client.proofs.Lent.{filter-is}
use Rattle.client.proofs.table.contains.Goals as goal

pub returns : goal.returns
returns c =
    let a = c.args in
    c.contains.ensures ∙ ap (λ (ws : List ℕ). contains_all_in 64 ws a.positions) (filter-is a.association a.table.now c.requires.1 c.requires.0) ∙ verdict-in-words _ _
