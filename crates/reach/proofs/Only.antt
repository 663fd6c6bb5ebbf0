-- Calls lead only to heads in range. Assumes nothing.
use Rattle.association.proofs.Simulate.{place_in}
use Rattle.order.specs.Order.{after}
use Rattle.client_rules.specs.Plain.{closed_table, step_plain}
use Rattle.client_rules.specs.Claim.{place_after}
use Rattle.reach.specs.Reach.{OnlyInRange}
use Rattle.client_rules.proofs.Tables.{good-at}
use Rattle.client_rules.proofs.Demand3.{head-reached, good-reached}

pub only-in-range : OnlyInRange
only-in-range t l cs ct a k =
    rw (head-reached t l cs ct a k) (place_in (place_after cs a) (good-at (after step_plain cs closed_table) a (good-reached cs ct).all))
