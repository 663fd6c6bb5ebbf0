-- `join` meets its contract: the test of the free place decides which case holds. Assumes nothing.
use mathlib.Core.Path.{ap₂, ◌∙◌}
use mathlib.Core.List.{List}
use Prim.Native.Nat.{ℕ}
use Rattle.octets.specs.Number.{put_at}
use Rattle.store_rules.proofs.Changed.{join_free, join-full}
use Rattle.store_row.proofs.join.Goals as goal

pub returns-then-free-n : goal.returns-then-free-n
returns-then-free-n c =
    c.put.ensures ∙ join_free _ _ _ c.find-free.ensures c.if-free-n.true

pub returns : goal.returns
returns c =
    let a = c.args in
    c.put-2.ensures
    ∙ ap₂ (λ (s : List ℕ) (k : ℕ). put_at s k 8 a.cookie.0) c.remove.ensures c.saturating_sub-last.ensures
    ∙ join-full _ _ _ c.find-free.ensures c.if-free-n.false
