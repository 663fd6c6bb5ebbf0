-- A refused event leaves the place as it was, C-32. Assumes nothing.
use mathlib.Core.Path.{◌≡◌, refl}
use mathlib.Core.Bool.{false, not, ◌&&◌, ◌||◌, true≢false}
use mathlib.Core.List.{List}
use mathlib.Core.Option.{Option, none, some}
use Prim.Native.Nat.{ℕ}
use lib.Dec.{eqb, ltb}
use Rattle.octets.proofs.Tests.{by-test}
use Rattle.poll_request.specs.Request.{poll_length}
use Rattle.state.specs.Rules.{openable}
use Rattle.state.specs.Plain.{Outstanding, Place, closed, opened, is_last, on_request, place_do}
use Rattle.state.specs.Event.{Event, Open, Close, Poll, Sent, Receive, Look}
use Rattle.state.specs.Reply.{Reply}

-- by the outstanding request, or its absence
pub by-request : (P : Reply × Place → Type 0) (q : Option Outstanding) {absent : Reply × Place} (f : Outstanding → Reply × Place)
    → P absent → ((k : Outstanding) → q ≡ some k → P (f k)) → P (on_request q absent f)
by-request P none f a h = a
by-request P (some k) f a h = h k refl

-- a refusal leaves the place
unfoldable pub Unchanged : Place → Reply × Place → Type 0
Unchanged p w = eqb w.0.refusal 0 ≡ false → w.1 ≡ p

pub refused-same : (e : Event) (datagram : List ℕ) (p : Place) → eqb (place_do e datagram p).0.refusal 0 ≡ false → (place_do e datagram p).1 ≡ p
unfolding place_do Unchanged
refused-same (Open edition timescale c) datagram closed = by-test (Unchanged closed) (openable edition timescale c) (λ t z. absurd (true≢false z)) (λ t z. refl)
refused-same (Open edition timescale c) datagram (opened o) = by-test (Unchanged (opened o)) (openable edition timescale c) (λ t z. refl) (λ t z. refl)
refused-same Close datagram closed = λ z. refl
refused-same Close datagram (opened o) = λ z. absurd (true≢false z)
refused-same (Poll cookie interleaved room) datagram closed = λ z. refl
refused-same (Poll cookie interleaved room) datagram (opened o) =
    by-test (Unchanged (opened o)) (eqb cookie.0 0 || is_last cookie.0 o.last) (λ t z. refl)
    (λ t. by-test (Unchanged (opened o)) (ltb room (poll_length o.edition o.chunk)) (λ u z. refl) (λ u z. absurd (true≢false z)))
refused-same (Sent t1) datagram closed = by-test (Unchanged closed) (eqb t1 0) (λ t z. refl) (λ t z. refl)
refused-same (Sent t1) datagram (opened o) =
    by-test (Unchanged (opened o)) (eqb t1 0) (λ t z. refl)
    (λ t. by-request (Unchanged (opened o)) o.outstanding _ (λ z. refl)
    (λ k e. by-test (Unchanged (opened o)) (eqb k.t1 0) (λ u z. absurd (true≢false z)) (λ u z. refl)))
refused-same (Receive r) datagram closed = by-test (Unchanged closed) (eqb r.t4 0) (λ t z. refl) (λ t z. refl)
refused-same (Receive r) datagram (opened o) =
    by-test (Unchanged (opened o)) (eqb r.t4 0) (λ t z. refl)
    (λ t. by-test (Unchanged (opened o)) (not (eqb r.refusal 0)) (λ u z. refl)
    (λ u. by-request (Unchanged (opened o)) o.outstanding _ (λ z. refl)
    (λ k e. by-test (Unchanged (opened o)) (not (eqb r.client.0 k.client)) (λ v z. refl)
    (λ v. by-test (Unchanged (opened o)) (r.interleaved && eqb k.server 0) (λ w z. refl) (λ w z. absurd (true≢false z))))))
refused-same Look datagram closed = λ z. refl
refused-same Look datagram (opened o) = λ z. refl
