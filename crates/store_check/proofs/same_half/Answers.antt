-- `same_half` meets its contract: four octets decide. Assumes nothing.
use mathlib.Core.Path.{sym}
use Rattle.store_rules.proofs.Sames.{same-four}
use Rattle.store_check.proofs.same_half.Goals as goal

pub returns : goal.returns
returns c = sym (same-four _ _ _ _ (λ i. (c.type_inv.a i).fits) (λ i. (c.type_inv.b i).fits))
