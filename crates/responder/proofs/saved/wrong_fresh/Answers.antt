-- `wrong_fresh` meets its contract: a cookie is held where its place is before the end. Assumes nothing.
use mathlib.Core.Path.{sym, ◌∙◌}
use borrow.Author.Rules.{rules}
use Rattle.octets.specs.Number.{Octets}
use Rattle.responder.proofs.Keeping.{fresh-wrong}
use Rattle.responder.proofs.saved.wrong_fresh.Goals as goal

pub returns-then-wants_interleaved : goal.returns-then-wants_interleaved
returns-then-wants_interleaved c =
    let b : Octets c.args.store.now = search rules in
    rw (c.find-at.ensures, sym c.wants_interleaved.ensures ∙ c.if-wants_interleaved.true)
    (fresh-wrong c.args.store.now b c.requires c.args.fresh_cookie.0)

pub returns : goal.returns
returns c = sym (rw (sym c.wants_interleaved.ensures ∙ c.if-wants_interleaved.false))
