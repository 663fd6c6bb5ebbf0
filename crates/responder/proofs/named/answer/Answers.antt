-- `answer` meets its contract: the number names an edition, or none. Assumes nothing.
use Rattle.std.proofs.Common.{◌≡◌, refl, ap, ◌∙◌, Bool, true, false, cond, List, ℕ, Result, Ok, Err}
use Rattle.std.proofs.lemmas.Result.{err_from_is_err_and}
use Rattle.header.specs.Edition.{is_edition, edition_of, named_edition}
use Rattle.header.specs.declared.edition.Edition.{Edition}
use Rattle.responder_rules.specs.Answer.{Given, Outcome, given_as, outcome, answer_of, answer_named}
use Rattle.responder.proofs.named.answer.Goals as goal

module _ (g : Edition → Given) (store out : List ℕ) where
  -- by what the number names
  abbrev answer_by : Result Edition ℕ → Outcome
  answer_by (Ok e) = answer_of (g e) store out
  answer_by (Err n) = outcome (Err n) out store

  by_named : (n : ℕ) → answer_by (named_edition n) ≡ answer_named n g store out
  unfolding answer_named
  by_named n = go (is_edition n)
    where
      go : (b : Bool) → answer_by (cond b (Ok (edition_of n)) (Err 6)) ≡ cond b (answer_of (g (edition_of n)) store out) (outcome (Err 6) out store)
      go true = refl
      go false = refl

pub returns-in_err-edition : goal.returns-in_err-edition
returns-in_err-edition c =
    let a = c.args in
    let g = given_as a.given in
    let p = err_from_is_err_and c.from_residual.result c.from_residual.ensures.1 in
    rw (p.1, p.2) (ap (answer_by g a.store.now a.out.now) c.in_err-edition.ensures ∙ by_named g a.store.now a.out.now a.edition)

pub returns : goal.returns
returns c =
    let a = c.args in
    let g = given_as a.given in
    c.answer.ensures ∙ ap (answer_by g a.store.now a.out.now) c.in_ok-edition.ensures ∙ by_named g a.store.now a.out.now a.edition
