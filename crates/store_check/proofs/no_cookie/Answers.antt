-- `no_cookie` meets its contract: both halves decide. Assumes nothing.
use mathlib.Core.Path.{sym, ap₂, ◌∙◌}
use mathlib.Core.Bool.{◌&&◌}
use mathlib.Core.List.{[]}
use Rattle.octets.specs.Number.{num}
use Rattle.octets.proofs.Written.{no-octets}
use Rattle.store_rules.proofs.Sames.{same-halves}
use Rattle.store_check.proofs.no_cookie.Goals as goal

pub returns : goal.returns
unfolding num
returns c =
    let a = c.args in
    ap₂ ◌&&◌ c.zero_half.ensures c.zero_half-2.ensures
    ∙ sym (same-halves a.store.now [] a.at 0 4 4 (λ i. (c.type_inv.store i).fits) no-octets)
