-- A refused call leaves the plain table as it was. Assumes nothing.
use mathlib.Core.Path.{◌≡◌, refl, sym, ap, ◌∙◌}
use mathlib.Core.Bool.{false, true≢false}
use mathlib.Core.List.{List, []}
use Prim.Native.Nat.{ℕ}
use lib.Dec.{eqb, ltb}
use lib.ListN.{length, get_or, set}
use lib.Seq.{set-get_or}
use Rattle.exchange.specs.Response.{response_of}
use Rattle.state.specs.Plain.{Place, closed, place_edition}
use Rattle.state.specs.Event.{Event, Poll, Receive}
use Rattle.state.specs.Reply.{Reply}
use Rattle.octets.proofs.Tests.{by-test}
use Rattle.state.proofs.Refused.{refused-same}
use Rattle.client_rules.proofs.Refused.{number_of}
use Rattle.client_rules.specs.Call.{Call, clear_table, open_one, close_one, poll, sent, receive, loop_verdict, publish}
use Rattle.client_rules.specs.Step.{event_on, clearing}
use Rattle.client_rules.specs.Plain.{step_plain}
use Rattle.client_rules.proofs.Tables.{at_place}

event-refused : (a : ℕ) (e : Event) (datagram : List ℕ) (ps : List Place) → eqb (at_place a e datagram ps).0.refusal 0 ≡ false → (at_place a e datagram ps).1 ≡ ps
unfolding event_on
event-refused a e datagram ps =
    by-test (λ (w : Reply × List Place). eqb w.0.refusal 0 ≡ false → w.1 ≡ ps) (ltb a 16)
    (λ t n. ap (set ps a) (refused-same e datagram (get_or ps a closed) n) ∙ set-get_or ps a closed)
    (λ t n. refl)

pub call-refused : (c : Call) (ps : List Place) → eqb (step_plain c ps).0.refusal 0 ≡ false → (step_plain c ps).1 ≡ ps
unfolding clearing
call-refused clear_table ps n = absurd (true≢false n)
call-refused (open_one a edition timescale c) ps n = event-refused a _ _ ps n
call-refused (close_one a) ps n = event-refused a _ _ ps n
call-refused (poll a cookie exponent interleaved out) ps n = event-refused a _ _ ps (sym (ap (λ (k : ℕ). eqb k 0) (number_of (at_place a (Poll (record { 0 = cookie }) interleaved (length out)) [] ps).0.refusal _ out refl)) ∙ n)
call-refused (sent a t1) ps n = event-refused a _ _ ps n
call-refused (receive a datagram t4) ps n = event-refused a _ _ ps (sym (ap (λ (k : ℕ). eqb k 0) (number_of (at_place a (Receive (response_of (place_edition (get_or ps a closed)) datagram t4)) datagram ps).0.refusal _ [] refl)) ∙ n)
call-refused (loop_verdict a id) ps n = refl
call-refused (publish selected id out) ps n = refl
