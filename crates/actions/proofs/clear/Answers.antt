-- `clear` meets its contract: the store is cleared in its place, and its length kept. Assumes nothing.
use mathlib.Core.Path.{refl, ap, ◌∙◌}
use Prim.Native.Nat.{ℕ, ◌*◌}
use Rattle.std.proofs.Common.{rules}
use Rattle.actions.specs.Kept.{kept_cleared}
use Rattle.actions.proofs.Keeping.{cleared-kept, refused-kept, some_refusal}
use Rattle.actions.proofs.clear.Goals as goal

pub returns-in_err-clear : goal.returns-in_err-clear
returns-in_err-clear c =
    let a = c.args in
    let h =
    refused-kept a.kept.now (c.from-n.result * 16) _ _ c.in_err-clear.ensures (some_refusal _)
    ∙ ap (λ (n : ℕ). kept_cleared (n * 16) a.kept.now) (c.from-n.ensures ∙ c.bits_at.ensures) in
    search rules

pub returns : goal.returns
returns c =
    let a = c.args in
    cleared-kept a.kept.now (c.from-n.result * 16) _ _ c.in_ok-clear.ensures _ refl c.put.ensures
    ∙ ap (λ (n : ℕ). kept_cleared (n * 16) a.kept.now) (c.from-n.ensures ∙ c.bits_at.ensures)
