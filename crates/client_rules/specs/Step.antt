-- What a call answers and leaves, on any table that takes events: lent numbers, or the plain table.
use Rattle.std.specs.Prelude.{Bool, cond, ◌&&◌, List, [], ℕ, ltb, length}
use Rattle.header.specs.declared.edition.Edition.{Edition}
use Rattle.exchange.specs.Response.{response_of}
use Rattle.state.specs.Rules.{plain_reply}
use Rattle.state.specs.Event.{Event, Open, Close, Poll, Sent, Receive, Look}
use Rattle.state.specs.Reply.{Reply}
use Rattle.client_rules.specs.Call.{Call, clear_table, open_one, close_one, poll, sent, receive, loop_verdict, publish, Answer, plain_answer, refusal_answer, poll_answer, receive_answer}
use Rattle.client_rules.specs.Select.{Seen, verdict_for, publish_for}

pub record Table (S : Type 0) : Type 0 where
  pub right_size : S → Bool
  -- C-2: every association is closed
  pub cleared : S
  -- an event on one of the sixteen, and the datagram that it came with
  pub event : ℕ → Event → List ℕ → S → Reply × S
  -- the filter of one association, and the edition in which its datagrams are read
  pub filter : S → ℕ → List ℕ
  pub edition : S → ℕ → Edition

-- an event on an association: 6 by N-9 and N-6
unfoldable pub event_on : {S : Type 0} → Table S → ℕ → Event → List ℕ → S → Reply × S
event_on T a e datagram s = cond (T.right_size s && ltb a 16) (T.event a e datagram s) (plain_reply 6, s)

-- what a call that only reads sees of an association
abbrev pub seen : {S : Type 0} → Table S → S → ℕ → Seen
seen T s a = record {
  refusal = (event_on T a Look [] s).0.refusal;
  complete = (event_on T a Look [] s).0.complete;
  filter = T.filter s a;
}

-- the answer that a call makes of an event's reply
abbrev pub answering : {S : Type 0} → (Reply → Answer) → Reply × S → Answer × S
answering answer w = (answer w.0, w.1)

-- C-2, N-9, N-15
unfoldable pub clearing : {S : Type 0} → Table S → S → Answer × S
clearing T s = cond (T.right_size s) (plain_answer 0 [], T.cleared) (plain_answer 6 [], s)

-- N-9
unfoldable pub publishing : {S : Type 0} → Table S → (selected : ℕ) (id out : List ℕ) → S → Answer
publishing T selected id out s = cond (T.right_size s) (publish_for selected id out (seen T s)) (plain_answer 6 out)

-- C-3, C-31
abbrev pub step : {S : Type 0} → Table S → Call → S → Answer × S
step T clear_table s = clearing T s
step T (open_one a edition timescale c) s = answering refusal_answer (event_on T a (Open edition timescale c) [] s)
step T (close_one a) s = answering refusal_answer (event_on T a Close [] s)
step T (poll a cookie exponent interleaved out) s =
    answering (poll_answer cookie exponent interleaved out) (event_on T a (Poll (record { 0 = cookie }) interleaved (length out)) [] s)
step T (sent a t1) s = answering refusal_answer (event_on T a (Sent t1) [] s)
step T (receive a datagram t4) s = answering receive_answer (event_on T a (Receive (response_of (T.edition s a) datagram t4)) datagram s)
step T (loop_verdict a id) s = (verdict_for id (seen T s a), s)
step T (publish selected id out) s = (publishing T selected id out s, s)
