-- `keep` meets its contract: what is left of the row, and the fresh cookie at its end. Assumes nothing.
use mathlib.Core.Path.{sym, ◌∙◌}
use borrow.Author.Rules.{rules}
use Rattle.octets.specs.Number.{Octets}
use Rattle.responder.proofs.Keeping.{time-wanted, keep-none, keep-joined}
use Rattle.responder.proofs.saved.keep.Goals as goal

pub leave-requires : goal.leave-requires
leave-requires c =
    let b : Octets c.args.store.now = search rules in
    (c.requires.0, time-wanted c.args.store.now b c.requires.0 c.args.asked c.args.fresh_cookie.0 c.args.time c.requires.1 (sym c.wants_interleaved.ensures ∙ c.if-wants_interleaved.true))

pub returns-then-wants_interleaved : goal.returns-then-wants_interleaved
returns-then-wants_interleaved c =
    let b : Octets c.args.store.now = search rules in
    keep-joined c.args.store.now b c.requires.0 c.args.asked c.args.fresh_cookie.0 c.args.time c.requires.1
    (sym c.wants_interleaved.ensures ∙ c.if-wants_interleaved.true) c.leave.ensures c.join.ensures

pub returns-else-wants_interleaved : goal.returns-else-wants_interleaved
returns-else-wants_interleaved c =
    let b : Octets c.args.store.now = search rules in
    keep-none c.args.store.now b c.requires.0 c.args.asked c.args.fresh_cookie.0 c.args.time c.requires.1
    (sym c.wants_interleaved.ensures ∙ c.if-wants_interleaved.false)
