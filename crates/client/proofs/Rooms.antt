-- A poll that was not refused had room for its request. Assumes nothing.
use mathlib.Core.Path.{◌≡◌}
use mathlib.Core.Bool.{Bool, true, ◌&&◌, ◌||◌, and-eq-true_iff}
use mathlib.Core.List.{List}
use Prim.Native.Nat.{ℕ}
use native.Mathlib.Omega.{arith}
use borrow.Author.Tests.{eqb-false, ltb-false}
use lib.Dec.{eqb, ltb}
use lib.ListN.{length, drop}
use Rattle.header.specs.Edition.{edition_of}
use Rattle.poll_request.specs.Request.{poll_length, Writable}
use Rattle.state.specs.Range.{in_range}
use Rattle.word_rules.specs.Words.{octets_of}
use Rattle.association.specs.Record.{head_of, head_size, record_size}
use Rattle.state.specs.Plain.{Place, is_last, place_do}
use Rattle.state.specs.Numbers.{cookie_in, place_in}
use Rattle.association.specs.Encode.{decode}
use Rattle.association.specs.Step.{on_numbers}
use Rattle.state.specs.Event.{Poll}
use Rattle.state.specs.Reply.{Reply}
use Rattle.state.specs.declared.head.Head.{Head}
use Rattle.state.proofs.Chunks.{chunk-size}
use Rattle.state.proofs.Ranges.{open-ranges}
use Rattle.client_rules.specs.Numbers.{table_size, part, at_numbers}
use Rattle.client_rules.specs.Step.{event_on}
use Rattle.octets.proofs.Tests.{by-test}

module _ (cookie : ℕ) (interleaved : Bool) (room : ℕ) where
  abbrev Fits : Reply → Type 0
  Fits r = r.refusal ≡ 0 → Writable r.asked room

  abbrev ReplyFits : Reply × Place → Type 0
  ReplyFits w = Fits w.0

  head-room : (h : Head) (datagram f : List ℕ) → in_range h ≡ true → Fits (place_do (Poll (record { 0 = cookie }) interleaved room) datagram (place_in h f)).0
  unfolding place_do
  head-room h datagram f g =
      by-test (λ (p : Place). Fits (place_do (Poll (record { 0 = cookie }) interleaved room) datagram p).0) (eqb h.state 0) (λ t z. absurd (omega arith))
      (λ t. by-test ReplyFits (eqb cookie 0 || is_last cookie (cookie_in h.last.0)) (λ u z. absurd (omega arith))
      (λ u. by-test ReplyFits (ltb room (poll_length (edition_of h.state) h.chunk)) (λ v z. absurd (omega arith))
      (λ v z.
      let o = open-ranges h g (eqb-false _ _ t) in
      let size = chunk-size h.chunk o.chunk in
      record { least = size.low; most = size.high; four = size.fours; held = o.timescale; fits = ltb-false _ _ v })))

  record-room : (datagram l : List ℕ) → Fits (on_numbers (Poll (record { 0 = cookie }) interleaved room) datagram l).0
  unfolding on_numbers decode
  record-room datagram l =
      by-test (λ (w : Reply × List ℕ). Fits w.0) (eqb (length l) record_size && in_range (head_of l))
      (λ t. head-room (head_of l) datagram (octets_of (drop head_size l)) ((and-eq-true_iff (eqb (length l) record_size) (in_range (head_of l))).0 t).1)
      (λ t z. absurd (omega arith))

  pub poll-room : (a : ℕ) (datagram t : List ℕ) → Fits (at_numbers a (Poll (record { 0 = cookie }) interleaved room) datagram t).0
  unfolding event_on
  poll-room a datagram t =
      by-test (λ (w : Reply × List ℕ). Fits w.0) (eqb (length t) table_size && ltb a 16) (λ u. record-room datagram (part a t)) (λ u z. absurd (omega arith))
