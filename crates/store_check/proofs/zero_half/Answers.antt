-- `zero_half` meets its contract: four octets decide. Assumes nothing.
use mathlib.Core.Path.{sym}
use mathlib.Core.List.{[]}
use Rattle.octets.specs.Number.{num}
use Rattle.octets.proofs.Written.{no-octets}
use Rattle.store_rules.proofs.Sames.{same-four}
use Rattle.store_check.proofs.zero_half.Goals as goal

pub returns : goal.returns
unfolding num
returns c =
    let a = c.args in
    sym (same-four a.store.now [] a.at 0 (λ i. (c.type_inv.store i).fits) no-octets)
