-- Calls that lead from a place to a head: a poll with its T1, and a round of these and an answer. Assumes nothing.
use mathlib.Core.Path.{◌≡◌, refl, ap, ◌∙◌}
use mathlib.Core.Bool.{Bool, false}
use mathlib.Core.List.{List, [], ◌∷◌}
use mathlib.Core.Option.{Option, some}
use Prim.Native.Nat.{ℕ, ◌^◌, ◌≤◌, ◌<◌}
use native.Mathlib.Omega.{arith}
use borrow.Author.Tests.{eq-eqb, ne_eqb, eqb-true, le-ltb}
use lib.Dec.{eqb, lit<}
use lib.IntN.{pos}
use lib.ListN.{length, replicate, length-replicate, get_or, set, length-set}
use lib.Seq.{get_or-set_same}
use Rattle.octets.proofs.Written.{zeros-octets}
use Rattle.header.specs.Edition.{most_timescale}
use Rattle.chain.specs.Field.{first_of}
use Rattle.chain.specs.Content.{Content, chain_octets, AllFit}
use Rattle.chain.specs.declared.cursor.Field.{Field}
use Rattle.std.specs.Prelude.{Option as Found, Some, None}
use Rattle.chain.proofs.Contents.{NoneOf, AllOctets}
use Rattle.poll_request.specs.Request.{poll_length}
use Rattle.exchange.specs.Response.{with_chunk, response_of, Response}
use Rattle.state.specs.Plain.{Outstanding, Opened, Place, closed, opened, place_edition, is_last, missed_counted, sent_cookie, exchanged, received, place_do}
use Rattle.state.specs.Numbers.{HeadFits, place_head}
use Rattle.state.specs.Event.{Event, Poll, Sent, Receive}
use Rattle.state.specs.Reply.{Reply}
use Rattle.state.specs.declared.head.Head.{Head}
use Rattle.state.specs.declared.head.Saved.{Saved}
use Rattle.order.specs.Order.{TaggedCall, after, EveryCall}
use Rattle.client_rules.specs.Call.{Call, poll, sent, receive, Typed}
use Rattle.client_rules.specs.Plain.{step_plain}
use Rattle.client_rules.proofs.Simulate.{at_in}
use Rattle.reach.proofs.Datagram.{response_header, response_datagram, looked_at, not-interleaved, response-octets, response-read}
use Rattle.client_rules.proofs.Tables.{at_place}
use Rattle.octets.proofs.Tests.{by-outcome}

-- calls lead to a head from each table of sixteen in which association a has the place p
pub record From (a : ℕ) (p : Place) (h : Head) : Type 0 where
  pub calls : List (TaggedCall Call)
  pub typed : EveryCall Typed calls
  pub leads : (ps : List Place) → length ps ≡ 16 → get_or ps a closed ≡ p → place_head (get_or (after step_plain calls ps) a closed) ≡ h

-- one call first, which is an event on a, where a has the place p
pub call : {a : ℕ} {p p' : Place} {h : Head} → a < 16 → (c : Call) (e : Event) (datagram : List ℕ) → Typed c
    → ((ps : List Place) → get_or ps a closed ≡ p → (step_plain c ps).1 ≡ (at_place a e datagram ps).1) → (place_do e datagram p).1 ≡ p' → From a p' h → From a p h
unfolding after
call {a} {p} inside c e datagram t is w l = record {
  calls = record { tag = 0; call = c } ∷ l.calls;
  typed = (t, l.typed);
  leads = λ ps n at.
      let left : (step_plain c ps).1 ≡ set ps a (place_do e datagram (get_or ps a closed)).1 = is ps at ∙ ap (λ (x : Reply × List Place). x.1) (at_in a e datagram ps inside) in
      let place : get_or (set ps a (place_do e datagram (get_or ps a closed)).1) a closed ≡ (place_do e datagram p).1 =
      get_or-set_same ps a (place_do e datagram (get_or ps a closed)).1 closed (omega arith) ∙ ap (λ (x : Place). (place_do e datagram x).1) at in
      l.leads (step_plain c ps).1 (ap length left ∙ length-set ps a (place_do e datagram (get_or ps a closed)).1 ∙ n) (ap (λ (x : List Place). get_or x a closed) left ∙ place ∙ w);
}

-- the request that asks the next offset, and the place that waits for its answer
abbrev request : (k t1 : ℕ) → Bool → Opened → Outstanding
request k t1 i o = record { client = k; server = sent_cookie i o; offset = o.next; t1 = t1 }

abbrev waiting : (k t1 : ℕ) → Bool → Opened → Opened
waiting k t1 i o = exchanged o (some k) (some (request k t1 i o)) o.saved (missed_counted o)

-- the place after a response of its edition that has the saved numbers v and the fields cs, in which a chunk is found, or none
abbrev answered : Saved → (k : ℕ) → List Content → Found Field → Opened → Opened
answered v k cs c o =
    received (with_chunk c (response_header o.edition v k) v.t4) (response_datagram o.edition v k cs) (waiting k v.t1 false o) (request k v.t1 false o)

-- a poll with cookie k is not refused after one with the last cookie
pub record Polls (k : ℕ) (last : Option ℕ) : Type 0 where
  pub nonzero : k ≡ 0 → ⊥
  pub fits : k < 2 ^ 64
  pub another : is_last k last ≡ false

module _ {a : ℕ} (inside : a < 16) (h : Head) where
  -- T1 is reported unless it is 0
  report : (o : Opened) (k t1 : ℕ) (i : Bool) → t1 < 2 ^ 64 → From a (opened (waiting k t1 i o)) h → From a (opened (waiting k 0 i o)) h
  unfolding place_do
  report o k t1 i f l = by-outcome (eqb t1 0) (λ e. rw (eqb-true t1 0 e) at l) (λ e. call inside (sent a t1) (Sent t1) [] (omega arith, f) (λ ps at. refl) (rw e) l)

  pub ask : (o : Opened) (k t1 : ℕ) (i : Bool) → Polls k o.last → t1 < 2 ^ 64 → From a (opened (waiting k t1 i o)) h → From a (opened o) h
  unfolding place_do
  ask o k t1 i p f l =
      let n = poll_length o.edition o.chunk in
      call inside (poll a k (pos 0) i (replicate n 0)) (Poll (record { 0 = k }) i (length (replicate n 0))) [] (omega arith, p.fits, record { sfits = lit< tt }, zeros-octets n)
      (λ ps at. refl) (rw (ne_eqb k 0 p.nonzero, p.another, length-replicate, le-ltb n n (omega arith))) (report o k t1 i f l)

  module _ (fits : HeadFits h) (nonzero : h.saved.t4 ≡ 0 → ⊥) where
    abbrev v : Saved
    v = h.saved

    -- the response is accepted, with a chunk or without
    accepted : (c : Found Field) (cs : List Content) (k : ℕ) (o : Opened)
        → (place_do (Receive (with_chunk c (response_header o.edition v k) v.t4)) (response_datagram o.edition v k cs) (opened (waiting k v.t1 false o))).1
        ≡ opened (answered v k cs c o)
    unfolding place_do
    accepted (Some f) cs k o = rw (ne_eqb v.t4 0 nonzero, eq-eqb k k refl, not-interleaved o.edition)
    accepted None cs k o = rw (ne_eqb v.t4 0 nonzero, eq-eqb k k refl, not-interleaved o.edition)

    -- a poll, its T1 and the response, which is one of the place's edition
    pub round : (o : Opened) → v.timescale ≤ most_timescale o.edition → (k : ℕ) → Polls k o.last
        → (cs : List Content) → AllFit cs → NoneOf 0xF502 cs → AllOctets cs → length (chain_octets cs) ≤ 1232
        → (c : Found Field) → first_of 0xF504 (looked_at o.edition cs) ≡ c
        → From a (opened (answered v k cs c o)) h → From a (opened o) h
    round o timescale k p cs fit none octets room c is l =
        let e = o.edition in
        let d = response_datagram e v k cs in
        ask o k v.t1 false p fits.saved-t1
        (call inside (receive a d v.t4) (Receive (response_of e d v.t4)) d (omega arith, response-octets e v k cs octets, fits.saved-t4)
        (λ ps at. ap (λ (x : Place). (at_place a (Receive (response_of (place_edition x) d v.t4)) d ps).1) at)
        (ap (λ (r : Response). (place_do (Receive r) d (opened (waiting k v.t1 false o))).1)
        (response-read e h fits timescale k p.fits cs fit none room v.t4 ∙ ap (λ (x : Found Field). with_chunk x (response_header e v k) v.t4) is)
        ∙ accepted c cs k o) l)
