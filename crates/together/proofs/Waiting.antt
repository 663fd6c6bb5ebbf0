-- A poll's request is outstanding, and stays so until its answer comes. Assumes nothing.
use mathlib.Core.Path.{◌≡◌, refl, sym, ap, ◌∙◌, subst, subst⁻¹}
use mathlib.Core.Bool.{Bool, true, false, not, ◌||◌}
use mathlib.Core.List.{List, [], ◌∷◌}
use mathlib.Core.Option.{some}
use Prim.Native.Nat.{ℕ, ◌<◌}
use native.Mathlib.Omega.{arith}
use borrow.Author.Tests.{eqb-true, eqb-false, not-true}
use lib.Dec.{eqb, ltb}
use lib.ListN.{length, get_or, set}
use lib.Seq.{get_or-set_same}
use Rattle.poll_request.specs.Request.{poll_length}
use Rattle.poll_request.specs.declared.Asked.{Asked}
use Rattle.state.specs.Rules.{poll_reply}
use Rattle.state.specs.Plain.{Outstanding, Opened, Place, closed, opened, polled, reported, sent_cookie, is_last, place_do}
use Rattle.state.specs.Event.{Event, Poll, Sent}
use Rattle.state.specs.Reply.{Reply}
use Rattle.state.proofs.Refused.{by-request}
use Rattle.order.specs.Order.{TaggedCall, after, EveryCall}
use Rattle.client_rules.specs.Call.{Call, clear_table, open_one, close_one, poll, sent, receive, loop_verdict, publish, Typed, Answer}
use Rattle.client_rules.specs.Numbers.{encode_all}
use Rattle.client_rules.specs.Plain.{step_plain}
use Rattle.client_rules.proofs.Tables.{GoodTable, at_place}
use Rattle.client_rules.proofs.Simulate.{at_in, at_other}
use Rattle.client_rules.proofs.Demand3.{simulates}
use Rattle.together.specs.Together.{leaves_outstanding, StaysOutstanding}
use Rattle.together.proofs.Refused.{call-refused}
use Rattle.octets.proofs.Tests.{by-test}

-- what a poll asks of an open place
abbrev pub asked_of : Bool → Opened → Asked
asked_of interleaved o = record { edition = o.edition; timescale = o.timescale; chunk = o.chunk; offset = o.next; server = record { 0 = sent_cookie interleaved o } }

-- a poll that is not refused
pub record Polled (cookie : ℕ) (interleaved : Bool) (p : Place) (w : Reply × Place) : Type 0 where
  pub place : Opened
  pub before : p ≡ opened place
  pub reply : w.0 ≡ poll_reply (asked_of interleaved place)
  pub left : w.1 ≡ opened (polled cookie interleaved place)

pub polled-place : (cookie : ℕ) (interleaved : Bool) (room : ℕ) (p : Place)
    → (place_do (Poll (record { 0 = cookie }) interleaved room) [] p).0.refusal ≡ 0
    → Polled cookie interleaved p (place_do (Poll (record { 0 = cookie }) interleaved room) [] p)
unfolding place_do
polled-place cookie interleaved room closed z = absurd (omega arith)
polled-place cookie interleaved room (opened o) z =
    let P : Reply × Place → Type 0 = λ w. w.0.refusal ≡ 0 → Polled cookie interleaved (opened o) w in
    by-test P (eqb cookie 0 || is_last cookie o.last) (λ t z. absurd (omega arith))
    (λ t. by-test P (ltb room (poll_length o.edition o.chunk)) (λ u z. absurd (omega arith))
    (λ u z. record { place = o; before = refl; reply = refl; left = refl })) z

-- a place waits for the answer to a request
pub record Waits (q : Asked) (cookie : ℕ) (p : Place) : Type 0 where
  pub place : Opened
  pub waiting : p ≡ opened place
  pub edition : place.edition ≡ q.edition
  pub chunk : place.chunk ≡ q.chunk
  pub request : Outstanding
  pub outstanding : place.outstanding ≡ some request
  pub client : request.client ≡ cookie
  pub server : request.server ≡ q.server.0
  pub offset : request.offset ≡ q.offset

-- it does so once it was polled
pub polled-waits : (cookie : ℕ) (interleaved : Bool) (o : Opened) → Waits (asked_of interleaved o) cookie (opened (polled cookie interleaved o))
polled-waits cookie interleaved o = record {
  place = polled cookie interleaved o;
  waiting = refl;
  edition = refl;
  chunk = refl;
  request = record { client = cookie; server = sent_cookie interleaved o; offset = o.next; t1 = 0 };
  outstanding = refl;
  client = refl;
  server = refl;
  offset = refl;
}

module _ (q : Asked) (cookie : ℕ) where
  -- a send may be reported meanwhile
  sent-waits : (t1 : ℕ) (p : Place) → Waits q cookie p → Waits q cookie (place_do (Sent t1) [] p).1
  unfolding place_do
  sent-waits t1 closed h = by-test (λ (w : Reply × Place). Waits q cookie w.1) (eqb t1 0) (λ t. h) (λ t. h)
  sent-waits t1 (opened o) h =
      let P : Reply × Place → Type 0 = λ w. Waits q cookie w.1 in
      by-test P (eqb t1 0) (λ t. h)
      (λ t. by-request P o.outstanding _ h
      (λ k e. by-test P (eqb k.t1 0) (λ u. reported-waits k e) (λ u. h)))
    where
      reported-waits : (k : Outstanding) → o.outstanding ≡ some k → Waits q cookie (opened (reported t1 o k))
      reported-waits k e =
          let same : o ≡ h.place = cc in
          let its : k ≡ h.request = cc in
          record {
            place = reported t1 o k;
            waiting = refl;
            edition = ap (λ (x : Opened). x.edition) same ∙ h.edition;
            chunk = ap (λ (x : Opened). x.chunk) same ∙ h.chunk;
            request = record { client = k.client; server = k.server; offset = k.offset; t1 = t1 };
            outstanding = refl;
            client = ap (λ (x : Outstanding). x.client) its ∙ h.client;
            server = ap (λ (x : Outstanding). x.server) its ∙ h.server;
            offset = ap (λ (x : Outstanding). x.offset) its ∙ h.offset;
          }

  module _ (a : ℕ) (l : a < 16) where
    -- an event of another association
    other-waits : (b : ℕ) (e : Event) (datagram : List ℕ) (ps : List Place) → not (eqb b a) ≡ true → Waits q cookie (get_or ps a closed)
        → Waits q cookie (get_or (at_place b e datagram ps).1 a closed)
    other-waits b e datagram ps n h =
        subst⁻¹ (Waits q cookie) (at_other b e datagram ps a (λ z. eqb-false b a (not-true _ n) (sym z))) h

    -- a report of sending, by this one or another
    report-waits : (b t1 : ℕ) (ps : List Place) → GoodTable ps → Waits q cookie (get_or ps a closed) → (t : Bool) → eqb b a ≡ t
        → Waits q cookie (get_or (at_place b (Sent t1) [] ps).1 a closed)
    report-waits b t1 ps g h true e =
        let same : b ≡ a = eqb-true b a e in
        let m : b < length ps = omega (arith, g.sixteen) in
        let w = (place_do (Sent t1) [] (get_or ps b closed)).1 in
        rw (at_in b (Sent t1) [] ps (omega arith))
        (subst (λ (n : ℕ). Waits q cookie (get_or (set ps b w) n closed)) same
        (rw (get_or-set_same ps b w closed m) (sent-waits t1 (get_or ps b closed) (subst⁻¹ (λ (n : ℕ). Waits q cookie (get_or ps n closed)) same h))))
    report-waits b t1 ps g h false e = other-waits b (Sent t1) [] ps (rw e) h

    -- a call that leaves the request outstanding whatever it answers
    call-waits : (c : Call) (ps : List Place) → GoodTable ps → leaves_outstanding a c ≡ true → Waits q cookie (get_or ps a closed)
        → Waits q cookie (get_or (step_plain c ps).1 a closed)
    call-waits clear_table ps g n h = let z : ◌≡◌ {A = ℕ} 0 1 = cc in absurd (omega arith)
    call-waits (open_one b edition timescale c) ps g n h = other-waits b _ _ ps n h
    call-waits (close_one b) ps g n h = other-waits b _ _ ps n h
    call-waits (poll b k exponent interleaved out) ps g n h = other-waits b _ _ ps n h
    call-waits (sent b t1) ps g n h = report-waits b t1 ps g h (eqb b a) refl
    call-waits (receive b datagram t4) ps g n h = other-waits b _ _ ps n h
    call-waits (loop_verdict b id) ps g n h = h
    call-waits (publish selected id out) ps g n h = h

    -- or since it is refused
    refused-waits : (c : Call) (ps : List Place) → GoodTable ps → leaves_outstanding a c || not (eqb (step_plain c ps).0.refusal 0) ≡ true → Waits q cookie (get_or ps a closed)
        → Waits q cookie (get_or (step_plain c ps).1 a closed)
    refused-waits c ps g n h = go (leaves_outstanding a c) refl n
      where
        go : (b : Bool) → leaves_outstanding a c ≡ b → b || not (eqb (step_plain c ps).0.refusal 0) ≡ true → Waits q cookie (get_or (step_plain c ps).1 a closed)
        go true e m = call-waits c ps g e h
        go false e m = subst⁻¹ (λ (qs : List Place). Waits q cookie (get_or qs a closed)) (call-refused c ps (not-true _ m)) h

    -- and any list of such calls on the table's numbers
    pub calls-wait : (cs : List (TaggedCall Call)) (ps : List Place) → EveryCall Typed cs → GoodTable ps → StaysOutstanding a cs (encode_all ps)
        → Waits q cookie (get_or ps a closed) → Waits q cookie (get_or (after step_plain cs ps) a closed)
    unfolding after
    calls-wait [] ps ty g ls h = h
    calls-wait (x ∷ cs) ps ty g ls h =
        let c = x.call in
        let same = simulates.agrees c ps ty.0 g in
        calls-wait cs (step_plain c ps).1 ty.1 (simulates.invariant c ps ty.0 g)
        (subst (λ (w : Answer × List ℕ). StaysOutstanding a cs w.1) same ls.1)
        (refused-waits c ps g (subst (λ (w : Answer × List ℕ). leaves_outstanding a c || not (eqb w.0.refusal 0) ≡ true) same ls.0) h)
