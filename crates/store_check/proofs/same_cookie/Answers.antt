-- `same_cookie` meets its contract: both halves decide. Assumes nothing.
use mathlib.Core.Path.{sym, ap₂, ◌∙◌}
use mathlib.Core.Bool.{◌&&◌}
use Rattle.octets.specs.Number.{Octets}
use Rattle.store_rules.proofs.Sames.{same-halves}
use Rattle.store_check.proofs.same_cookie.Goals as goal

pub returns : goal.returns
returns c =
    let a = c.args in
    let o : Octets a.a.now = λ i. (c.type_inv.a i).fits in
    let p : Octets a.b.now = λ i. (c.type_inv.b i).fits in
    ap₂ ◌&&◌ c.same_half.ensures c.same_half-2.ensures
    ∙ sym (same-halves a.a.now a.b.now 0 0 4 4 o p)
