-- `run` meets its contract: each call has the values of its words. Assumes nothing.
use Rattle.changes.proofs.Changing.{change-poll, change-receive, change-plain, after, after_step}
use Rattle.changes.proofs.run.Goals as goal

pub returns-in-Poll : goal.returns-in-Poll
returns-in-Poll g c = after _ _ _ _ _ (change-poll _ _ c.in-Poll.is) c.poll.ensures

pub returns-in-Receive : goal.returns-in-Receive
returns-in-Receive g c = after _ _ _ _ _ (change-receive _ _ c.in-Receive.is) c.receive.ensures

pub returns-in_default : goal.returns-in_default
returns-in_default g c = after_step _ _ _ _ _ _ (change-plain _ _ c.in_default.not-Poll c.in_default.not-Receive) c.make.ensures
