-- What the code's events, replies and changes stand for. A refusal is its number, and zeros (N-27).
use Rattle.std.specs.Prelude.{Result, Ok, Err, Bool, false, ℕ}
use Rattle.refusal.specs.Refusal.{refusal_number}
use Rattle.refusal.specs.declared.Refusal.{Refusal}
use Rattle.poll_request.specs.declared.Asked.{Asked}
use Rattle.exchange.specs.Response.{responded_by}
use Rattle.exchange.specs.Judging.{judgement_number, chunk_number}
use Rattle.exchange.specs.declared.judging.Times.{Times}
use Rattle.state.specs.Event.{Event, Open, Close, Poll, Sent, Receive, Look}
use Rattle.state.specs.Reply.{Reply}
use Rattle.state.specs.Rules.{none_asked, no_times, plain_reply, look_reply}
use Rattle.state.specs.Change.{Change, change, refuse}
use Rattle.state.specs.declared.event.Event as code_event
use Rattle.state.specs.declared.event.Event.TheVariants as event
use Rattle.state.specs.declared.event.Reply as code_reply
use Rattle.state.specs.declared.event.Reply.TheVariants as reply
use Rattle.state.specs.declared.head.Head.{Head}
use Rattle.state.specs.declared.head.Filling.TheVariants.{Keep}
use Rattle.state.specs.declared.head.Change as code_change

-- `number`, here and below, is that of what refuses: a datagram, an event or a change
abbrev pub event_by : {R : Type 0} → (number : R → ℕ) → code_event.Event R → Event
event_by number (event.Open edition timescale c) = Open edition timescale c
event_by number event.Close = Close
event_by number (event.Poll cookie interleaved room) = Poll cookie interleaved room
event_by number (event.Sent t1) = Sent t1
event_by number (event.Receive response t4) = Receive (responded_by number response t4)
event_by number event.Look = Look

abbrev pub event_as : code_event.Event Refusal → Event
event_as e = event_by refusal_number e

abbrev pub asked_of : code_reply.Reply → Asked
asked_of reply.Done = none_asked
asked_of (reply.Asked q) = q
asked_of (reply.Measured judged chunk times) = none_asked
asked_of (reply.Looked complete) = none_asked

abbrev pub judgement_of : code_reply.Reply → ℕ
judgement_of reply.Done = 0
judgement_of (reply.Asked q) = 0
judgement_of (reply.Measured judged chunk times) = judgement_number judged
judgement_of (reply.Looked complete) = 0

abbrev pub outcome_in : code_reply.Reply → ℕ
outcome_in reply.Done = 0
outcome_in (reply.Asked q) = 0
outcome_in (reply.Measured judged chunk times) = chunk_number chunk
outcome_in (reply.Looked complete) = 0

abbrev pub times_in : code_reply.Reply → Times
times_in reply.Done = no_times
times_in (reply.Asked q) = no_times
times_in (reply.Measured judged chunk times) = times
times_in (reply.Looked complete) = no_times

abbrev pub complete_in : code_reply.Reply → Bool
complete_in reply.Done = false
complete_in (reply.Asked q) = false
complete_in (reply.Measured judged chunk times) = false
complete_in (reply.Looked complete) = complete

-- of what was not refused; `kind_of` tells apart what this alone does not
abbrev pub reply_as : code_reply.Reply → Reply
reply_as r = record { refusal = 0; asked = asked_of r; judgement = judgement_of r; outcome = outcome_in r; times = times_in r; complete = complete_in r }

abbrev pub replied_by : {R : Type 0} → (number : R → ℕ) → Result code_reply.Reply R → Reply
replied_by number (Ok r) = reply_as r
replied_by number (Err e) = plain_reply (number e)

abbrev pub replied : Result code_reply.Reply Refusal → Reply
replied r = replied_by refusal_number r

-- of a call that only reads, which tells whether the filter is complete
abbrev pub looked : Result Bool Refusal → Reply
looked (Ok b) = look_reply b
looked (Err e) = plain_reply (refusal_number e)

-- of numbers h: a refusal changes nothing (N-28)
abbrev pub changed_by : {R : Type 0} → (number : R → ℕ) → Result code_change.Change R → Head → Change
changed_by number (Ok d) h = change (reply_as d.reply) d.head d.filling
changed_by number (Err e) h = refuse (number e) h

abbrev pub changed_as : Result code_change.Change Refusal → Head → Change
changed_as r h = changed_by refusal_number r h

-- and a call that only reads changes nothing either
abbrev pub looked_as : Result Bool Refusal → Head → Change
looked_as b h = change (looked b) h Keep
