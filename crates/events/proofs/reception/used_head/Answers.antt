-- `used_head` meets its contract: the numbers that stay come back from the place. Assumes nothing.
use Rattle.state.proofs.Flags.{count-first}
use Rattle.state.proofs.Ranges.{edition-back}
use Rattle.state.proofs.Numbers.{cookie-back}
use Rattle.events.proofs.reception.used_head.Goals as goal

pub returns : goal.returns
returns c =
    let h = c.args.h in
    rw (count-first h.taken, cookie-back h.last.0, edition-back h.state c.requires)
