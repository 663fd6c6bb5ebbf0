-- A reply comes back from its kind and from the record that it stands for, so that no two replies have both. Assumes nothing.
use mathlib.Core.Path.{◌≡◌, refl, sym, ap, ◌∙◌}
use mathlib.Core.Bool.{cond}
use Prim.Native.Nat.{ℕ}
use lib.Dec.{eqb}
use Rattle.std.specs.Prelude.{Result, Ok, Err}
use Rattle.exchange.specs.Judging.{judgement_number, chunk_number}
use Rattle.exchange.specs.declared.judging.Unusable.{Unusable}
use Rattle.exchange.specs.declared.judging.Unusable.TheVariants.{Unsynchronized, BadStratum, OtherTimescale, TimeUnknown, HalfEra}
use Rattle.exchange.specs.declared.judging.ChunkOutcome.{ChunkOutcome}
use Rattle.exchange.specs.declared.judging.ChunkOutcome.TheVariants.{Taken, Absent, OtherSize}
use Rattle.state.specs.Reply.{Reply}
use Rattle.state.specs.Code.{reply_as}
use Rattle.state.specs.Kind.{Kind, done, asked, measured, looked, kind_of, SameReply}
use Rattle.state.specs.declared.event.Reply as code
use Rattle.state.specs.declared.event.Reply.TheVariants.{Done, Asked, Measured, Looked}

abbrev judged_by : ℕ → Result Unit Unusable
judged_by n =
    cond (eqb n 0) (Ok tt)
    (cond (eqb n 1) (Err Unsynchronized) (cond (eqb n 2) (Err BadStratum) (cond (eqb n 3) (Err OtherTimescale) (cond (eqb n 4) (Err TimeUnknown) (Err HalfEra)))))

judged-back : (j : Result Unit Unusable) → judged_by (judgement_number j) ≡ j
judged-back (Ok _) = refl
judged-back (Err Unsynchronized) = refl
judged-back (Err BadStratum) = refl
judged-back (Err OtherTimescale) = refl
judged-back (Err TimeUnknown) = refl
judged-back (Err HalfEra) = refl

abbrev outcome_by : ℕ → ChunkOutcome
outcome_by n = cond (eqb n 1) Taken (cond (eqb n 2) Absent OtherSize)

outcome-back : (c : ChunkOutcome) → outcome_by (chunk_number c) ≡ c
outcome-back Taken = refl
outcome-back Absent = refl
outcome-back OtherSize = refl

abbrev reply_by : Kind → Reply → code.Reply
reply_by done a = Done
reply_by asked a = Asked a.asked
reply_by measured a = Measured (judged_by a.judgement) (outcome_by a.outcome) a.times
reply_by looked a = Looked a.complete

reply-back : (r : code.Reply) → reply_by (kind_of r) (reply_as r) ≡ r
reply-back Done = refl
reply-back (Asked q) = refl
reply-back (Measured j c t) = rw (judged-back j, outcome-back c)
reply-back (Looked b) = refl

-- so that a contract with both fixes the reply
pub same-reply : SameReply
same-reply a b k e = sym (reply-back a) ∙ ap (λ (x : Kind). reply_by x (reply_as a)) k ∙ ap (reply_by (kind_of b)) e ∙ reply-back b
