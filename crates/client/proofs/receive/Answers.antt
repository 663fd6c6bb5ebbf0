-- `receive` meets its contract: the datagram is read in the association's edition, and an accepted response is measured. Assumes nothing.
use mathlib.Core.Path.{refl, subst⁻¹}
use mathlib.Core.List.{List}
use Prim.Native.Nat.{ℕ}
use Rattle.exchange.specs.Response.{responded}
use Rattle.state.specs.Reply.{Reply}
use Rattle.state.specs.Code.{reply_as}
use Rattle.client.proofs.Told.{Told, Tells, response-told, was-measured}
use Rattle.client.proofs.receive.Goals as goal
use Rattle.client.proofs.receive.Goals.{In_ok-reply}

-- what the reply tells of the response
told : (c : In_ok-reply) → Told (reply_as c.in_ok-reply.reply)
told c =
    let a = c.args in
    subst⁻¹ (λ (w : Reply × List ℕ). Tells w.0) c.in_ok-reply.ensures (response-told (responded c.read-response.result a.t4) a.association a.datagram.now a.table.now) refl

pub unreachable-requires : goal.unreachable-requires
unreachable-requires c = was-measured c.in_ok-reply.reply (told (goal.at.unreachable-requires c).In_ok-reply) c.in_default.not-Measured

pub measure_times-requires : goal.measure_times-requires
measure_times-requires c = (rw c.in-Measured.is at (told (goal.at.measure_times-requires c).In_ok-reply)).usable
