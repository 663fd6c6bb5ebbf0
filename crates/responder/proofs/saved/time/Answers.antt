-- `time` meets its contract: the time stands at the cookie's place. Assumes nothing.
use mathlib.Core.Path.{sym, ap, ◌∙◌}
use Prim.Native.Nat.{ℕ, ◌+◌}
use borrow.Author.Rules.{rules}
use native.Mathlib.Omega.{arith}
use Rattle.octets.specs.Number.{Octets, get_at}
use Rattle.store_rules.proofs.Stores.{store-read}
use Rattle.store_rules.proofs.Changed.{place-most}
use Rattle.responder.proofs.Keeping.{time-there}
use Rattle.responder.proofs.saved.time.Goals as goal

pub overflow_add-at : goal.overflow_add-at
overflow_add-at c =
    let b : Octets c.args.store.now = search rules in
    let most = place-most (store-read c.args.store.now b c.requires) c.args.asked.server_cookie.0 in
    omega (arith, c.find-at.ensures, c.well_formed.0)

pub returns-then-wants_interleaved : goal.returns-then-wants_interleaved
returns-then-wants_interleaved c =
    let b : Octets c.args.store.now = search rules in
    c.get.ensures
    ∙ ap (λ (p : ℕ). get_at c.args.store.now (p + 8) 8) c.find-at.ensures
    ∙ time-there c.args.store.now b c.requires c.args.asked.server_cookie.0
    ∙ sym (rw (sym c.wants_interleaved.ensures ∙ c.if-wants_interleaved.true))

pub returns : goal.returns
returns c = sym (rw (sym c.wants_interleaved.ensures ∙ c.if-wants_interleaved.false))
