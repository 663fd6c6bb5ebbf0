-- `with_id` meets its contract: the ID's positions are added to the words. Assumes nothing.
use mathlib.Core.Path.{ap, ◌∙◌}
use Rattle.word_rules.specs.Words.{octets_of}
use Rattle.filter_rules.specs.Filter.{add_all}
use Rattle.filter_rules.specs.Positions.{positions}
use Rattle.filter_rules.proofs.Digits.{id_of-whole}
use Rattle.filter_words.proofs.Through.{adding-in-words}
use Rattle.client.proofs.publishing.with_id.Goals as goal

pub returns : goal.returns
returns c =
    let a = c.args in
    ap octets_of c.add.ensures ∙ adding-in-words _ _
    ∙ ap (add_all (octets_of a.words)) (c.positions.ensures ∙ ap positions (c.id_of.ensures ∙ id_of-whole a.id.now c.requires))
