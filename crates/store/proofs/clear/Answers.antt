-- `clear` meets its contract: zeros are a store with no used record. Assumes nothing.
use mathlib.Core.Path.{sym, ap, ◌∙◌}
use Prim.Native.Nat.{ℕ}
use mathlib.Core.List.{List}
use Rattle.store_rules.specs.Row.{cleared}
use Rattle.store_rules.proofs.Stores.{right-size}
use Rattle.store_rules.proofs.Shifts.{clear-all}
use Rattle.store.proofs.clear.Goals as goal

pub returns-then-wrong_size : goal.returns-then-wrong_size
unfolding cleared
returns-then-wrong_size c = rw (sym c.wrong_size.ensures ∙ c.if-wrong_size.true)

pub returns : goal.returns
unfolding cleared
returns c =
    let s = c.args.store.now in
    let e = sym c.wrong_size.ensures ∙ c.if-wrong_size.false in
    rw e (ap (λ (l : List ℕ). (0, l)) (c.fill.ensures.after (λ y e. e) ∙ clear-all s (right-size s e).2))
