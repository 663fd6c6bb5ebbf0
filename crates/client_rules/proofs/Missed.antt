-- The number of missed polls and the server cookie of a poll are what the observer says. Assumes nothing.
use mathlib.Core.Path.{◌≡◌, ap, ◌∙◌, sym, subst, subst⁻¹}
use mathlib.Core.Bool.{Bool, cond, ◌&&◌, ◌||◌}
use mathlib.Core.List.{List, [], ◌∷◌, ◌++◌}
use Prim.Native.Nat.{ℕ, ◌+◌, ◌-◌}
use native.Mathlib.Omega.{arith}
use lib.Dec.{eqb, ltb}
use lib.IntN.{ℤ}
use lib.ListN.{length, drop, take}
use lib.Seq.{take_at}
use Rattle.octets.proofs.Tests.{by-test}
use Rattle.header.specs.Header.{header_of, server_cookie_of}
use Rattle.header.specs.declared.Header.{Header}
use Rattle.poll_request.specs.Request.{poll_octets, poll_length}
use Rattle.poll_request.specs.declared.Asked.{Asked}
use Rattle.poll_request.proofs.Requests.{length-poll_octets}
use Rattle.poll_request.proofs.Polls.{poll-header-read}
use Rattle.state.specs.Plain.{Opened, Place, closed, opened, is_last, sent_cookie, place_do}
use Rattle.state.specs.Numbers.{place_head}
use Rattle.state.specs.Event.{Event, Poll}
use Rattle.state.specs.Reply.{Reply}
use Rattle.state.specs.declared.head.Head.{Head}
use Rattle.state.proofs.Chunks.{chunk-size}
use Rattle.state.proofs.Missed.{counted-cookie}
use Rattle.association.proofs.Reached.{GoodPlace, GoodOpened, ranges, timescale-held, sent-fits}
use Rattle.order.specs.Order.{after}
use Rattle.client_rules.specs.Call.{Call, poll, Typed, Answer, poll_answer}
use Rattle.client_rules.specs.Plain.{closed_table, step_plain}
use Rattle.client_rules.specs.Observe.{Observation, watched}
use Rattle.client_rules.specs.Numbers.{step_numbers}
use Rattle.client_rules.specs.Claim.{place_after, reached, written_by}
use Rattle.client_rules.specs.Missed.{polls_since, observed_missed, observed_server, MissedPolls}
use Rattle.client_rules.proofs.Tables.{good_start, good-at}
use Rattle.client_rules.proofs.Simulate.{at_in}
use Rattle.client_rules.proofs.Observed.{Watching, Watched, entry}
use Rattle.client_rules.proofs.Watch.{itself}
use Rattle.client_rules.proofs.Demand3.{good-reached, watched-reached, call-reached, head-reached, run-watched, closed-watched}

module _ (a : ℕ) (seen : List Observation) (k : ℕ) (exponent : ℤ) (interleaved : Bool) (out : List ℕ) (ty : Typed (poll a k exponent interleaved out)) where
  abbrev poll_call : Call
  poll_call = poll a k exponent interleaved out

  abbrev event : Event
  event = Poll (record { 0 = k }) interleaved (length out)

  -- what has to hold of an answer: where it is no refusal, the server cookie is the observer's
  abbrev Sends : Answer → Type 0
  Sends w = w.refusal ≡ 0 → server_cookie_of (written_by w)
      ≡ cond (interleaved && ltb (observed_missed a (entry poll_call w ∷ seen)) 4) (observed_server a seen) 0

  abbrev Answers : Reply × Place → Type 0
  Answers w = Sends (poll_answer k exponent interleaved out w.0)

  accepted-sends : (o : Opened) → GoodOpened o → Watching o a seen
      → Answers (place_do event [] (opened o))
  unfolding place_do polls_since header_of
  accepted-sends o g h =
      by-test Answers (eqb k 0 || is_last k o.last) (λ t z. absurd (omega arith))
      (λ t. by-test Answers (ltb (length out) (poll_length o.edition o.chunk)) (λ u z. absurd (omega arith))
      (λ u z.
      let q : Asked = record { edition = o.edition; timescale = o.timescale; chunk = o.chunk; offset = o.next; server = record { 0 = sent_cookie interleaved o } } in
      let size = chunk-size o.chunk (ranges o g).chunk in
      let low = size.low in
      let long : length (poll_octets q k exponent interleaved) ≡ poll_length o.edition o.chunk = length-poll_octets q k exponent interleaved (omega arith) size.fours in
      let written : take (poll_length o.edition o.chunk) (poll_octets q k exponent interleaved ++ drop (poll_length o.edition o.chunk) out) ≡ poll_octets q k exponent interleaved =
      take_at (poll_octets q k exponent interleaved) (drop (poll_length o.edition o.chunk) out) (poll_length o.edition o.chunk) long in
      let replaced : polls_since a seen + 1 - 1 ≡ polls_since a seen = omega arith in
      ap server_cookie_of written
      ∙ ap (λ (x : Header). x.server_cookie.0) (poll-header-read q k exponent interleaved (timescale-held o g) ty.2 ty.1 (sent-fits o g interleaved))
      ∙ counted-cookie interleaved o h.counted
      ∙ rw (itself a, replaced)))

  sends : (p : Place) → GoodPlace p → Watched p a seen → Answers (place_do event [] p)
  unfolding place_do
  sends closed g h z = absurd (omega arith)
  sends (opened o) g h z = accepted-sends o g h z

pub missed-polls : MissedPolls
missed-polls t e cs ty a l =
    let ps = after step_plain cs closed_table in
    let seen = watched step_plain cs closed_table [] in
    let run = run-watched cs closed_table [] ty good_start (closed-watched []) a l in
    record {
      number = λ o q.
          let w : Watching o a seen = subst (λ (p : Place). Watched p a seen) q run in
          ap (λ (h : Head). h.missed) (head-reached t e cs ty a l ∙ ap place_head q) ∙ w.counted.missed ∙ ap (observed_missed a) (sym (watched-reached t e cs ty));
      cookie = λ k exponent interleaved out f.
          let c = poll a k exponent interleaved out in
          let answer = poll_answer k exponent interleaved out in
          let event = Poll (record { 0 = k }) interleaved (length out) in
          let same = ap (λ (w : Answer × List ℕ). w.0) (call-reached t e cs ty c f) ∙ ap (λ (w : Reply × List Place). answer w.0) (at_in a event [] ps l) in
          subst⁻¹ (λ (s : List Observation). Sends a s k exponent interleaved out f (step_numbers c (reached t cs)).0) (watched-reached t e cs ty)
          (subst⁻¹ (Sends a seen k exponent interleaved out f) same
          (sends a seen k exponent interleaved out f (place_after cs a) (good-at ps a (good-reached cs ty).all) run));
    }
