-- Which of the code's replies an event has. `reply_as` alone makes one of `Done`, of a look at a filter that is not complete, and of a request
-- of zeros.
use Rattle.std.specs.Prelude.{Result, Ok, Err, ◌≡◌, List, ℕ}
use Rattle.refusal.specs.Refusal.{refusal_number}
use Rattle.refusal.specs.declared.Refusal.{Refusal}
use Rattle.state.specs.Event.{Event, Open, Close, Poll, Sent, Receive, Look}
use Rattle.state.specs.Reply.{Reply}
use Rattle.state.specs.Change.{changed, Does}
use Rattle.state.specs.Code.{reply_as, changed_by}
use Rattle.state.specs.declared.event.Reply as code_reply
use Rattle.state.specs.declared.event.Reply.TheVariants as reply
use Rattle.state.specs.declared.head.Head.{Head}
use Rattle.state.specs.declared.head.Change as code_change

pub data Kind : Type 0 where
  done : Kind
  asked : Kind
  measured : Kind
  looked : Kind

abbrev pub kind_of : code_reply.Reply → Kind
kind_of reply.Done = done
kind_of (reply.Asked q) = asked
kind_of (reply.Measured judged chunk times) = measured
kind_of (reply.Looked complete) = looked

-- that of an event's reply
abbrev pub kind_for : Event → Kind
kind_for (Open edition timescale c) = done
kind_for Close = done
kind_for (Poll cookie interleaved room) = asked
kind_for (Sent t1) = done
kind_for (Receive r) = measured
kind_for Look = looked

-- of what an event answered; a refusal has no reply, and stands for any
abbrev pub kind_in : {R : Type 0} → Event → Result code_reply.Reply R → Kind
kind_in e (Ok r) = kind_of r
kind_in e (Err n) = kind_for e

abbrev pub kind_made : {R : Type 0} → Event → Result code_change.Change R → Kind
kind_made e (Ok d) = kind_of d.reply
kind_made e (Err n) = kind_for e

-- what an event does to numbers, and the kind of its reply
abbrev pub changed_in_kind : Event → Head → ((datagram filter : List ℕ) → Reply × (Head × List ℕ)) × Kind
changed_in_kind e h = (changed e h, kind_for e)

-- the change does what the event does, and its reply is of the event's kind
pub record AnswersBy {R : Type 0} (number : R → ℕ) (e : Event) (h : Head) (r : Result code_change.Change R) : Type 0 where
  pub does : Does e h (changed_by number r h)
  pub kind : kind_made e r ≡ kind_for e

abbrev pub Answers : Event → Head → Result code_change.Change Refusal → Type 0
Answers e h r = AnswersBy refusal_number e h r

-- A CLAIM

-- a contract that has both the kind and the record of a reply fixes the reply
abbrev pub SameReply : Type 0
SameReply = (a b : code_reply.Reply) → kind_of a ≡ kind_of b → reply_as a ≡ reply_as b → a ≡ b
