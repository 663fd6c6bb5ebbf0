-- `check` meets its contract: the step is the answer, or a field is found; after a MAC `after_mac` decides, and else the rest does, which is
-- shorter by four octets or more. Assumes nothing.
use lib.ListN.{length}
use Rattle.chain.proofs.+check.Given as goal

abbrev pub decreases-check : goal.decreases-check
decreases-check l = length l.rest.now
