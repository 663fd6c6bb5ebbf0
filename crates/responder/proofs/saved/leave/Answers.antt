-- `leave` meets its contract: the record at the cookie's place is removed, or none. Assumes nothing.
use mathlib.Core.Path.{ap, ◌∙◌}
use borrow.Author.Rules.{rules}
use Rattle.octets.specs.Number.{Octets}
use Rattle.store_rules.specs.Place.{removed}
use Rattle.responder.proofs.Keeping.{leave_none, leave-record}
use Rattle.responder.proofs.saved.leave.Goals as goal

pub returns-then-time-eq0 : goal.returns-then-time-eq0
returns-then-time-eq0 c =
    let b : Octets c.args.store.now = search rules in
    leave_none c.args.store.now b c.requires.0 c.args.cookie.0 c.args.time c.requires.1 c.if-time-eq0.true

pub returns : goal.returns
returns c =
    let b : Octets c.args.store.now = search rules in
    leave-record c.args.store.now b c.requires.0 c.args.cookie.0 c.args.time c.requires.1 c.if-time-eq0.false
    (c.remove.ensures ∙ ap (removed c.args.store.now) c.find-at.ensures)
