-- The client accepts our responder's answer to its poll, and in edition 7 takes its chunk. Assumes nothing.
use mathlib.Core.Path.{◌≡◌, refl, sym, ap, ◌∙◌, subst}
use mathlib.Core.List.{List}
use Prim.Native.Nat.{ℕ, ◌+◌, ◌-◌, ◌^◌, ◌≤◌, ◌<◌}
use native.Mathlib.Omega.{arith}
use borrow.Author.Tests.{eq-eqb}
use lib.ListN.{length, get_or, set, drop}
use lib.Seq.{take_at, get_or-take, get_or-drop, get_or-set_same, paste}
use Rattle.octets.specs.Number.{num}
use Rattle.octets.proofs.Numbers.{num-left}
use Rattle.header.specs.Edition.{interleaved_flag}
use Rattle.header.specs.Header.{header_of}
use Rattle.header.specs.declared.edition.Edition.{Edition}
use Rattle.header.specs.declared.edition.Edition.TheVariants.{One, Seven}
use Rattle.poll_request.specs.Request.{poll_octets}
use Rattle.exchange.specs.Response.{response_of, Response}
use Rattle.exchange.specs.Judging.{outcome_of}
use Rattle.poll_request.specs.Request.{offset_place, poll_length}
use Rattle.poll_request.specs.declared.Asked.{Asked}
use Rattle.poll_request.proofs.Polls.{poll-offset}
use Rattle.state.specs.Plain.{Opened, Outstanding, Place, closed, opened, place_edition, received, reply_of, place_do, place_filter}
use Rattle.state.specs.Event.{Receive}
use Rattle.state.specs.Reply.{Reply}
use Rattle.association.proofs.Responses.{chunk_octets, copied, taken-length}
use Rattle.association.proofs.Reached.{GoodPlace, GoodOpened}
use Rattle.order.specs.Order.{after}
use Rattle.client_rules.specs.Call.{receive, Typed, Answer, receive_answer}
use Rattle.client_rules.specs.Numbers.{filter_octet, encode_all}
use Rattle.client_rules.specs.Plain.{closed_table, step_plain}
use Rattle.client_rules.specs.Claim.{place_after}
use Rattle.client_rules.proofs.Tables.{GoodTable, good-at, filter-holds}
use Rattle.client_rules.proofs.Simulate.{at_in, good-response}
use Rattle.client_rules.proofs.Pasted.{within}
use Rattle.client_rules.proofs.Demand3.{simulates, good-reached, call-reached}
use Rattle.client_rules.proofs.Demand2.{accepts}
use Rattle.store_rules.specs.Row.{row_of}
use Rattle.store_rules.proofs.Stores.{store-read}
use Rattle.responder_rules.specs.Answer.{Given, answer_refusal, answer_octets, answer_of}
use Rattle.responder_rules.proofs.Accepting.{answerable, answer-accepted, answer-number, answer-sent}
use Rattle.responder_rules.proofs.Leaving.{range-row}
use Rattle.responder_rules.proofs.Room.{response-length}
use Rattle.together.specs.Together.{Polling, poll_chunk, poll_offset, calls_of, Asks, Answers, sent_by, chunk_outcome, receiving, Exchanged, Together}
use Rattle.together.proofs.Answered.{chunk_asked, polled-size}
use Rattle.together.proofs.Served.{Serves, served, chunk-taken, chunk-octets}
use Rattle.together.proofs.Waiting.{Waits}
use Rattle.together.proofs.Polled.{Written, written}

-- a place that waits for an answer accepts one that serves its request
accepted-by : (q : Asked) (cookie : ℕ) (filter datagram : List ℕ) (p : Place) (w : Waits q cookie p) → Serves q cookie filter datagram
    → (t4 : ℕ) → (t4 ≡ 0 → ⊥) → let r = response_of w.place.edition datagram t4 in place_do (Receive (response_of (place_edition p) datagram t4)) datagram p
    ≡ (reply_of r w.place w.request, opened (received r datagram w.place w.request))
accepted-by q cookie filter datagram p w s t4 nonzero = accepts datagram t4 nonzero p (record {
  place = w.place;
  open-sender = w.waiting;
  request = w.request;
  outstanding = w.outstanding;
  sound = s.sound;
  repeats = s.client ∙ sym w.client;
  interleaved = λ i z. s.interleaved (ap (λ (x : Edition). interleaved_flag x (header_of x datagram).flags) (sym w.edition) ∙ i) (sym w.server ∙ z);
})

module _ (k : Polling) (h : Asks k) (g : Given) (store out : List ℕ) (n : Answers k g store out) where
  w : Written k
  w = written k h

  abbrev q : Asked
  q = w.asked

  abbrev a : ℕ
  a = k.association

  abbrev poll : List ℕ
  poll = poll_octets q k.cookie k.exponent k.interleaved

  poll-long : length poll ≡ poll_length q.edition q.chunk
  poll-long = polled-size q k.cookie k.exponent k.interleaved w.ranges.good

  -- the request is what the poll wrote
  request : g.request ≡ poll
  request = n.request ∙ rw w.answer (take_at poll (drop (poll_length q.edition q.chunk) k.out) (poll_length q.edition q.chunk) poll-long)

  passes : answer_refusal g store out ≡ 0
  passes = sym (answer-number g store out) ∙ n.success

  abbrev answer : List ℕ
  answer = answer_octets g (row_of store)

  -- what is sent is the answer
  sent : sent_by (answer_of g store out) ≡ answer
  sent = answer-sent g store out passes

  serves : Serves q k.cookie g.filter answer
  serves =
      let range = range-row g (row_of store) (store-read store n.stored (answerable g store out passes).right).sound n.range in
      served q k.cookie k.exponent k.interleaved w.ranges g (n.edition ∙ sym w.edition) request store out passes range n.filter n.stored

  abbrev places : List Place
  places = after step_plain (calls_of k) closed_table

  abbrev before : Place
  before = place_after (calls_of k) a

  abbrev o : Opened
  o = w.waits.place

  abbrev asked : Outstanding
  asked = w.waits.request

  good : GoodTable places
  good = good-reached (calls_of k) h.typed

  module _ (t4 : ℕ) (nonzero : t4 ≡ 0 → ⊥) (fits : t4 < 2 ^ 64) where
    abbrev r : Response
    r = response_of o.edition answer t4

    -- it is read in the poll's edition
    read-so : r ≡ response_of q.edition answer t4
    read-so = ap (λ (x : Edition). response_of x answer t4) w.waits.edition

    typed : Typed (receive a answer t4)
    typed = let l = w.inside in (omega arith, serves.octets, fits)

    -- what receiving the answer answers and leaves, on the plain table
    plain : step_plain (receive a answer t4) places ≡ (receive_answer (reply_of r o asked), set places a (opened (received r answer o asked)))
    plain =
        ap (λ (x : Reply × List Place). (receive_answer x.0, x.1)) (at_in a (Receive (response_of (place_edition before) answer t4)) answer places w.inside)
        ∙ ap (λ (x : Reply × Place). (receive_answer x.0, set places a x.1)) (accepted-by q k.cookie g.filter answer before w.waits serves t4 nonzero)

    received-so : receiving k answer t4 ≡ (receive_answer (reply_of r o asked), encode_all (set places a (opened (received r answer o asked))))
    received-so =
        call-reached k.table h.size (calls_of k) h.typed (receive a answer t4) typed
        ∙ ap (λ (x : Answer × List Place). (x.0, encode_all x.1)) plain

    taken : outcome_of r o.chunk ≡ chunk_outcome q.edition
    taken = ap (λ (x : Response). outcome_of x o.chunk) read-so ∙ chunk-taken q k.cookie g.filter answer t4 serves o.chunk w.waits.chunk

    good-after : GoodTable (set places a (opened (received r answer o asked)))
    good-after = subst (λ (x : Answer × List Place). GoodTable x.1) plain (simulates.invariant (receive a answer t4) places typed good)

    -- in edition 7
    module _ (seven : q.edition ≡ Seven) where
      -- the filter that is left
      filter-left : (received r answer o asked).filter ≡ paste o.filter q.offset (chunk_asked q g.filter) q.chunk
      filter-left =
          let opens : GoodOpened o = subst GoodPlace w.waits.waiting (good-at places a good.all) in
          let inside = w.ranges.good.inside in
          let room : asked.offset + o.chunk ≤ 512 = rw (w.waits.offset, w.waits.chunk) inside in
          let took : outcome_of r o.chunk ≡ 1 = taken ∙ ap chunk_outcome seven in
          rw took (copied r answer o.filter asked.offset o.chunk opens.filter room (good-response o.edition answer t4 serves.octets) (taken-length r o.chunk (eq-eqb _ _ took))
          ∙ rw (ap (λ (x : Response). chunk_octets x answer) read-so ∙ chunk-octets q k.cookie g.filter answer t4 serves seven, w.waits.offset, w.waits.chunk))

      -- octet i of it is the server's
      octet-left : (i : ℕ) → q.offset ≤ i → i < q.offset + q.chunk → get_or (received r answer o asked).filter i 0 ≡ get_or g.filter i 0
      octet-left i l m =
          let inside = w.ranges.good.inside in
          let opens : GoodOpened o = subst GoodPlace w.waits.waiting (good-at places a good.all) in
          let long = opens.filter in
          let size = (answer-accepted g store out passes).filter in
          let same : q.offset + (i - q.offset) ≡ i = omega arith in
          ap (λ (f : List ℕ). get_or f i 0) filter-left
          ∙ within o.filter (chunk_asked q g.filter) q.offset q.chunk (omega arith) (omega (arith, response-length g.filter q.offset q.chunk size inside)) i l m
          ∙ get_or-take q.chunk (drop q.offset g.filter) (i - q.offset) 0 (omega arith)
          ∙ get_or-drop q.offset g.filter (i - q.offset) 0 ∙ ap (λ (j : ℕ). get_or g.filter j 0) same

      -- the offset that the poll wrote
      offset-written : poll_offset k ≡ q.offset
      offset-written =
          let inside = w.ranges.good.inside in
          let least = w.ranges.good.least in
          let long : length poll ≡ 84 + q.chunk = poll-long ∙ ap (λ (x : Edition). poll_length x q.chunk) seven in
          ap (λ (x : Answer). num x.out offset_place 2) w.answer
          ∙ num-left poll (drop (poll_length q.edition q.chunk) k.out) offset_place 2 (omega arith) ∙ poll-offset q k.cookie k.exponent k.interleaved seven (omega arith)

      filter-seven : (i : ℕ) → poll_offset k ≤ i → i < poll_offset k + q.chunk → filter_octet a i (receiving k answer t4).1 ≡ get_or g.filter i 0
      filter-seven i l m =
          let at = offset-written in
          let next = opened (received r answer o asked) in
          let u : a < length places = omega (arith, good.sixteen, w.inside) in
          ap (λ (x : Answer × List ℕ). filter_octet a i x.1) received-so
          ∙ ap (λ (f : List ℕ). get_or f i 0) (filter-holds (set places a next) a good-after w.inside ∙ ap place_filter (get_or-set_same places a next closed u))
          ∙ octet-left i (omega arith) (omega arith)

    -- the octets that the poll asked: none in edition 1
    chunk-written : poll_chunk k ≡ poll_length q.edition q.chunk - 84
    chunk-written = ap (λ (x : Answer). x.size - offset_place) w.answer

    filter-taken : (i : ℕ) → poll_offset k ≤ i → i < poll_offset k + poll_chunk k → filter_octet a i (receiving k answer t4).1 ≡ get_or g.filter i 0
    filter-taken i l m = go q.edition refl
      where
        asked_in : (x : Edition) → q.edition ≡ x → poll_chunk k ≡ poll_length x q.chunk - 84
        asked_in x e = chunk-written ∙ ap (λ (y : Edition). poll_length y q.chunk - 84) e

        go : (x : Edition) → q.edition ≡ x → filter_octet a i (receiving k answer t4).1 ≡ get_or g.filter i 0
        go One e = absurd (omega (arith, asked_in One e))
        go Seven e = filter-seven e i l (omega (arith, asked_in Seven e))

    exchanged : Exchanged k g store out t4
    exchanged = record {
      accepted = rw sent (ap (λ (x : Answer × List ℕ). x.0.refusal) received-so);
      taken = rw sent (ap (λ (x : Answer × List ℕ). x.0.chunk) received-so ∙ taken ∙ ap chunk_outcome w.edition);
      filter = rw sent filter-taken;
    }

pub together : Together
together k h g store out n t4 nonzero fits = exchanged k h g store out n t4 nonzero fits
