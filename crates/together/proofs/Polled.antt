-- What a poll that is not refused asks, writes and leaves. Assumes nothing.
use mathlib.Core.Path.{◌≡◌, refl, sym, ap, ◌∙◌, subst, subst⁻¹}
use mathlib.Core.Bool.{Bool, true, false}
use mathlib.Core.List.{List, [], ◌∷◌, ◌++◌}
use Prim.Native.Nat.{ℕ, ◌<◌}
use native.Mathlib.Omega.{arith}
use borrow.Author.Tests.{ltb-true, ltb-false}
use lib.Dec.{ltb}
use lib.ListN.{length, get_or, set, drop}
use lib.Seq.{get_or-set_same}
use Rattle.poll_request.specs.Request.{poll_octets, poll_length}
use Rattle.poll_request.specs.declared.Asked.{Asked}
use Rattle.state.specs.Plain.{Opened, Place, closed, opened, place_edition, polled as polled_place, place_do}
use Rattle.state.specs.Event.{Event, Poll}
use Rattle.state.specs.Reply.{Reply}
use Rattle.state.proofs.Chunks.{chunk-size}
use Rattle.association.proofs.Reached.{GoodPlace, GoodOpened, ranges as open-ranges, timescale-held, sent-fits}
use Rattle.order.specs.Order.{TaggedCall, after, EveryCall}
use Rattle.order.proofs.Permutations.{every-left, every-right}
use Rattle.order.proofs.Simulate.{after-append}
use Rattle.client_rules.specs.Call.{Call, Typed, Answer, written_answer, poll_answer}
use Rattle.client_rules.specs.Numbers.{encode_all}
use Rattle.client_rules.specs.Plain.{closed_table, step_plain}
use Rattle.client_rules.specs.Claim.{place_after}
use Rattle.client_rules.proofs.Tables.{GoodTable, good-at, at_place}
use Rattle.client_rules.proofs.Simulate.{at_in, at_out}
use Rattle.client_rules.proofs.Demand3.{simulates, good-reached, call-reached}
use Rattle.together.specs.Together.{Polling, poll_of, polling, poll_edition, calls_of, StaysOutstanding, Asks}
use Rattle.together.proofs.Served.{Ranges}
use Rattle.client_rules.proofs.Refused.{number_of}
use Rattle.together.proofs.Waiting.{asked_of, Polled, polled-place, Waits, polled-waits, calls-wait}

pub record Written (k : Polling) : Type 0 where
  -- the association is one of the sixteen
  pub inside : k.association < 16
  -- what is asked
  pub asked : Asked
  pub edition : asked.edition ≡ poll_edition k
  pub ranges : Ranges asked k.cookie k.exponent
  -- what is written
  pub answer : (polling k).0
      ≡ written_answer (poll_length asked.edition asked.chunk) (poll_octets asked k.cookie k.exponent k.interleaved ++ drop (poll_length asked.edition asked.chunk) k.out)
  -- the place waits for its answer
  pub waits : Waits asked k.cookie (place_after (calls_of k) k.association)

module _ (k : Polling) (h : Asks k) where
  abbrev a : ℕ
  a = k.association

  abbrev places : List Place
  places = after step_plain k.earlier closed_table

  abbrev before : Place
  before = get_or places a closed

  abbrev event : Event
  event = Poll (record { 0 = k.cookie }) k.interleaved (length k.out)

  abbrev call : TaggedCall Call
  call = record { tag = k.tag; call = poll_of k }

  earlier-typed : EveryCall Typed k.earlier
  earlier-typed = every-left (λ x. Typed x.call) k.earlier (call ∷ k.between) h.typed

  later-typed : EveryCall Typed (call ∷ k.between)
  later-typed = every-right (λ x. Typed x.call) k.earlier (call ∷ k.between) h.typed

  good : GoodTable places
  good = good-reached k.earlier earlier-typed

  -- the answer is that of the plain table, and so is the table that is left
  same : polling k ≡ ((step_plain (poll_of k) places).0, encode_all (step_plain (poll_of k) places).1)
  same = call-reached k.table h.size k.earlier earlier-typed (poll_of k) later-typed.0

  plain-answer : (polling k).0 ≡ poll_answer k.cookie k.exponent k.interleaved k.out (at_place a event [] places).0
  plain-answer = ap (λ (w : Answer × List ℕ). w.0) same

  not-refused : (at_place a event [] places).0.refusal ≡ 0
  not-refused =
      sym (number_of (at_place a event [] places).0.refusal _ k.out refl)
      ∙ ap (λ (w : Answer). w.refusal) (sym plain-answer) ∙ h.success

  inside : a < 16
  inside = go (ltb a 16) refl
    where
      go : (b : Bool) → ltb a 16 ≡ b → a < 16
      go true t = ltb-true a 16 t
      go false t =
          let z = sym (ap (λ (w : Reply × List Place). w.0.refusal) (at_out a event [] places (ltb-false a 16 t))) ∙ not-refused in
          absurd (omega arith)

  here : at_place a event [] places ≡ ((place_do event [] before).0, set places a (place_do event [] before).1)
  here = at_in a event [] places inside

  at : Polled k.cookie k.interleaved before (place_do event [] before)
  at =
      polled-place k.cookie k.interleaved (length k.out) before
      (sym (ap (λ (w : Reply × List Place). w.0.refusal) here) ∙ not-refused)

  abbrev o : Opened
  o = at.place

  good-before : GoodOpened o
  good-before = subst GoodPlace at.before (good-at places a good.all)

  ranges : Ranges (asked_of k.interleaved o) k.cookie k.exponent
  ranges =
      let before = open-ranges o good-before in
      let size = chunk-size o.chunk before.chunk in
      let low = size.low in
      record {
        good = record { four = size.fours; least = omega arith; inside = before.next-ends };
        timescale = timescale-held o good-before;
        poll = later-typed.0.2;
        client = later-typed.0.1;
        server = sent-fits o good-before k.interleaved;
      }

  -- the place once it was polled
  left : get_or (step_plain (poll_of k) places).1 a closed ≡ opened (polled_place k.cookie k.interleaved o)
  left =
      let m : a < length places = omega (arith, good.sixteen, inside) in
      ap (λ (w : Reply × List Place). get_or w.1 a closed) here ∙ get_or-set_same places a (place_do event [] before).1 closed m ∙ at.left

  -- and when the answer comes
  waits : Waits (asked_of k.interleaved o) k.cookie (place_after (calls_of k) a)
  unfolding after
  waits =
      subst⁻¹ (λ (ps : List Place). Waits (asked_of k.interleaved o) k.cookie (get_or ps a closed)) (after-append step_plain k.earlier (call ∷ k.between) closed_table)
      (calls-wait (asked_of k.interleaved o) k.cookie a inside k.between (step_plain (poll_of k) places).1 later-typed.1
      (simulates.invariant (poll_of k) places later-typed.0 good)
      (subst (λ (w : Answer × List ℕ). StaysOutstanding a k.between w.1) same h.outstanding)
      (subst⁻¹ (Waits (asked_of k.interleaved o) k.cookie) left (polled-waits k.cookie k.interleaved o)))

  pub written : Written k
  written = record {
    inside = inside;
    asked = asked_of k.interleaved o;
    edition = sym (ap place_edition at.before);
    ranges = ranges;
    answer = plain-answer ∙ ap (poll_answer k.cookie k.exponent k.interleaved k.out) (ap (λ (w : Reply × List Place). w.0) here ∙ at.reply);
    waits = waits;
  }
