-- `poll` meets its contract: the request is written only where the event was not refused, and then it had room. Assumes nothing.
use mathlib.Core.Path.{◌≡◌, refl, ap, ◌∙◌, subst⁻¹}
use mathlib.Core.Bool.{Bool}
use mathlib.Core.List.{List, []}
use Prim.Native.Nat.{ℕ, ◌≤◌}
use native.Mathlib.Omega.{arith}
use lib.IntN.{ℤ}
use lib.ListN.{length}
use mir.Syntax.{w8}
use mir.Val.{to_z, of_z}
use mir.Facts.{to_z-of_z}
use Rattle.header.specs.declared.edition.Edition.{Edition}
use Rattle.header.specs.declared.edition.Edition.TheVariants.{One, Seven}
use Rattle.poll_request.specs.Request.{request_written, poll_length, Writable}
use Rattle.state.specs.Reply.{Reply}
use Rattle.state.specs.Event.{Poll}
use Rattle.state.specs.Code.{reply_as}
use Rattle.state.specs.declared.event.Reply.TheVariants.{Asked}
use Rattle.client_rules.specs.Call.{Answer, written_answer, poll_answer}
use Rattle.client_rules.specs.Numbers.{at_numbers}
use Rattle.client.specs.Answers.{is_interleaved}
use Rattle.client.proofs.Rooms.{poll-room}
use Rattle.client.proofs.Told.{was-asked}
use Rattle.client.proofs.Returned.{answered, poll-written}
use Rattle.client.proofs.poll.Goals as goal
use Rattle.client.proofs.poll.Goals.{In_ok-reply}

-- the reply, of the mode that was wanted
replied : (c : In_ok-reply) → ◌≡◌ {A = Reply × List ℕ} (reply_as c.in_ok-reply.reply, c.apply.new.table)
    (at_numbers c.args.association (Poll c.args.cookie (is_interleaved c.args.mode) (length c.args.out.now)) [] c.args.table.now)
replied c =
    let a = c.args in
    c.in_ok-reply.ensures ∙ ap (λ (i : Bool). at_numbers a.association (Poll a.cookie i (length a.out.now)) [] a.table.now) c.is_interleaved-interleaved.ensures

-- and the request can be written
writable : (c : In_ok-reply) → Writable (reply_as c.in_ok-reply.reply).asked (length c.args.out.now)
writable c =
    let a = c.args in
    subst⁻¹ (λ (w : Reply × List ℕ). w.0.refusal ≡ 0 → Writable w.0.asked (length a.out.now)) (replied c)
    (poll-room a.cookie.0 (is_interleaved a.mode) (length a.out.now) a.association [] a.table.now)
    refl

pub unreachable-requires : goal.unreachable-requires
unreachable-requires c = was-asked c.in_ok-reply.reply _ (writable (goal.at.unreachable-requires c).In_ok-reply) c.in_default.not-Asked

-- a poll's length fits sixteen bits
length-fits : (e : Edition) (n : ℕ) → n ≤ 512 → poll_length e n ≤ 596
length-fits One n h = omega arith
length-fits Seven n h = omega arith

pub overflow_cast-result : goal.overflow_cast-result
overflow_cast-result c =
    let q = c.in-Asked.asked in
    let w : Writable q (length c.args.out.now) = rw c.in-Asked.is at (writable (goal.at.overflow_cast-result c).In_ok-reply) in
    let high = length-fits q.edition q.chunk w.most in
    omega (arith, high, c.poll_length.ensures)

pub returns : goal.returns
returns c =
    let a = c.args in
    let q = c.in-Asked.asked in
    let w : Writable q (length a.out.now) = rw c.in-Asked.is at (writable (goal.at.returns c).In_ok-reply) in
    let mode = c.is_interleaved-interleaved.ensures in
    let exponent : to_z w8 (of_z w8 a.exponent) ≡ a.exponent = to_z-of_z c.ranges.exponent in
    let out =
    c.write.ensures ∙ ap (λ (i : Bool). request_written q a.cookie.0 (to_z w8 (of_z w8 a.exponent)) i a.out.now) mode
    ∙ ap (λ (e : ℤ). request_written q a.cookie.0 e (is_interleaved a.mode) a.out.now) exponent in
    ap (λ (n : ℕ). (written_answer n c.write.new.out, c.apply.new.table)) c.poll_length.ensures
    ∙ ap (λ (l : List ℕ). (written_answer (poll_length q.edition q.chunk) l, c.apply.new.table)) out
    ∙ ap (λ (w : Answer). (w, c.apply.new.table)) (poll-written a.cookie.0 a.exponent (is_interleaved a.mode) a.out.now (reply_as (Asked q)) refl w)
    ∙ answered (poll_answer a.cookie.0 a.exponent (is_interleaved a.mode) a.out.now) (rw c.in-Asked.is at (replied (goal.at.returns c).In_ok-reply))
