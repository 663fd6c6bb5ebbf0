-- `given_from` meets its contract: each value is a word's. Assumes nothing.
use Rattle.actions.proofs.answering.given_from.Goals as goal

pub returns : goal.returns
returns c = rw (c.u64_at.ensures, c.u64_at-2.ensures, c.u64_at-3.ensures, c.server_of.ensures)
