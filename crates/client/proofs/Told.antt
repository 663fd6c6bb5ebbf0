-- What the reply of a poll and of a response tells: which of the code's replies it is, and that the times of a usable response have a
-- measurement. Assumes nothing.
use mathlib.Core.Path.{◌≡◌, refl}
use mathlib.Core.Bool.{Bool, true, false, cond, not, ◌&&◌}
use mathlib.Core.List.{List}
use Prim.Native.Nat.{ℕ}
use native.Mathlib.Omega.{arith}
use borrow.Author.Tests.{eqb-false, not-true}
use lib.Dec.{eqb, ltb}
use lib.ListN.{length}
use Rattle.std.specs.Prelude.{Result}
use Rattle.measure.specs.Measure.{measurement}
use Rattle.poll_request.specs.Request.{Writable}
use Rattle.poll_request.specs.declared.Asked.{Asked}
use Rattle.exchange.specs.Response.{Response}
use Rattle.exchange.specs.Judging.{outcome_of}
use Rattle.exchange.specs.declared.judging.Times.{Times}
use Rattle.exchange.specs.declared.judging.Unusable.{Unusable}
use Rattle.exchange.specs.declared.judging.ChunkOutcome.{ChunkOutcome}
use Rattle.exchange.proofs.Judgements.{usable-measured}
use Rattle.state.specs.Range.{in_range}
use Rattle.state.specs.Event.{Receive}
use Rattle.state.specs.Reply.{Reply}
use Rattle.state.specs.Code.{reply_as}
use Rattle.state.specs.Plain.{Place, closed, opened, place_do}
use Rattle.state.specs.declared.event.Reply as code
use Rattle.state.specs.declared.event.Reply.TheVariants.{Done, Asked as AskedReply, Measured, Looked}
use Rattle.state.proofs.Refused.{by-request}
use Rattle.association.specs.Record.{head_of, record_size}
use Rattle.association.specs.Encode.{decode}
use Rattle.association.specs.Step.{on_numbers}
use Rattle.client_rules.specs.Numbers.{table_size, part, at_numbers}
use Rattle.client_rules.specs.Step.{event_on}
use Rattle.octets.proofs.Tests.{by-test}

-- what can be written was asked
pub was-asked : (r : code.Reply) (room : ℕ) → Writable (reply_as r).asked room → ((q : Asked) → r ≡ AskedReply q → ⊥) → ⊥
was-asked Done room w never = let least = w.least in omega (arith, least)
was-asked (AskedReply q) room w never = never q refl
was-asked (Measured j c times) room w never = let least = w.least in omega (arith, least)
was-asked (Looked b) room w never = let least = w.least in omega (arith, least)

-- an accepted response: its chunk has an outcome, and if it can be used its times have a measurement
pub record Told (a : Reply) : Type 0 where
  pub outcome : a.outcome ≡ 0 → ⊥
  pub usable : a.judgement ≡ 0 → (measurement a.times.t1 a.times.t2 a.times.t3 a.times.t4).judgement ≡ 0

abbrev pub Tells : Reply → Type 0
Tells a = a.refusal ≡ 0 → Told a

pub was-measured : (r : code.Reply) → Told (reply_as r) → ((j : Result Unit Unusable) (c : ChunkOutcome) (t : Times) → r ≡ Measured j c t → ⊥) → ⊥
was-measured Done t never = t.outcome refl
was-measured (AskedReply q) t never = t.outcome refl
was-measured (Measured j c times) t never = never j c times refl
was-measured (Looked b) t never = t.outcome refl

some-outcome : (r : Response) (c : ℕ) → outcome_of r c ≡ 0 → ⊥
some-outcome r c = go r.present (eqb r.size c)
  where
    go : (p b : Bool) → ◌≡◌ {A = ℕ} (cond p (cond b 1 3) 2) 0 → ⊥
    go true true e = omega arith
    go true false e = omega arith
    go false b e = omega arith

module _ (r : Response) where
  abbrev TellsOf : Reply × Place → Type 0
  TellsOf w = Tells w.0

  place-told : (datagram : List ℕ) (p : Place) → Tells (place_do (Receive r) datagram p).0
  unfolding place_do
  place-told datagram closed = by-test TellsOf (eqb r.t4 0) (λ t z. absurd (omega arith)) (λ t z. absurd (omega arith))
  place-told datagram (opened o) =
      by-test TellsOf (eqb r.t4 0) (λ t z. absurd (omega arith))
      (λ t. by-test TellsOf (not (eqb r.refusal 0)) (λ u z. absurd (eqb-false _ _ (not-true _ u) z))
      (λ u. by-request TellsOf o.outstanding _ (λ z. absurd (omega arith))
      (λ k e. by-test TellsOf (not (eqb r.client.0 k.client)) (λ v z. absurd (omega arith))
      (λ v. by-test TellsOf (r.interleaved && eqb k.server 0) (λ w z. absurd (omega arith))
      (λ w z. record { outcome = some-outcome r o.chunk; usable = usable-measured r o.timescale _ _ })))))

  record-told : (datagram l : List ℕ) → Tells (on_numbers (Receive r) datagram l).0
  unfolding on_numbers
  record-told datagram l =
      by-test (λ (w : Reply × List ℕ). Tells w.0) (eqb (length l) record_size && in_range (head_of l)) (λ t. place-told datagram (decode l)) (λ t z. absurd (omega arith))

  pub response-told : (a : ℕ) (datagram t : List ℕ) → Tells (at_numbers a (Receive r) datagram t).0
  unfolding event_on
  response-told a datagram t =
      by-test (λ (w : Reply × List ℕ). Tells w.0) (eqb (length t) table_size && ltb a 16) (λ u. record-told datagram (part a t)) (λ u z. absurd (omega arith))
