-- A refusal changes nothing, on any numbers lent. Assumes nothing.
use mathlib.Core.Path.{◌≡◌, refl, sym, ap, ◌∙◌}
use mathlib.Core.Bool.{true, cond, not, ◌&&◌, ◌||◌}
use mathlib.Core.List.{List, [], ◌∷◌}
use Prim.Native.Nat.{ℕ, ◌*◌}
use borrow.Author.Tests.{eqb-true}
use lib.Dec.{eqb, ltb}
use lib.ListN.{length, drop, take-append-drop}
use lib.Seq.{drop-drop}
use Rattle.octets.specs.Among.{among}
use Rattle.octets.proofs.Among.{among-not-zero}
use Rattle.chain.proofs.Refusals.{sound-number}
use Rattle.exchange.proofs.Responses.{response-sound}
use Rattle.poll_request.specs.Request.{poll_length}
use Rattle.state.specs.Rules.{openable}
use Rattle.state.specs.Range.{in_range}
use Rattle.state.specs.Plain.{Place, closed, opened, is_last, place_do}
use Rattle.state.specs.Event.{Event, Open, Close, Poll, Sent, Receive, Look}
use Rattle.state.specs.Reply.{Reply}
use Rattle.octets.proofs.Tests.{by-test}
use Rattle.association.specs.Record.{head_of, record_size}
use Rattle.association.specs.Encode.{decode}
use Rattle.association.specs.Step.{on_numbers}
use Rattle.state.proofs.Refused.{by-request}
use Rattle.client_rules.specs.Call.{Call, clear_table, open_one, close_one, poll, sent, receive, loop_verdict, publish, Answer, plain_answer, refusal_answer, poll_answer, receive_answer}
use Rattle.client_rules.specs.Select.{Seen, wrong_id, all_selected, in_range_seen, complete_seen, verdict_for, publish_for}
use Rattle.client_rules.specs.Step.{event_on, clearing, publishing}
use Rattle.client_rules.specs.Numbers.{table_size, part, put_part, edition_at, at_numbers, seen_numbers}
use Rattle.client_rules.specs.Refused.{lent, refusals_of, RefusedCall, Refusals}

-- ---- the refusals

-- the refusals that concern an event, but 6
abbrev later_of : Event → List ℕ
later_of (Open edition timescale c) = 7 ∷ []
later_of Close = 7 ∷ []
later_of (Poll cookie interleaved room) = 7 ∷ 8 ∷ 11 ∷ []
later_of (Sent t1) = 7 ∷ []
later_of (Receive r) = 7 ∷ 1 ∷ 2 ∷ 3 ∷ 4 ∷ 5 ∷ 13 ∷ 9 ∷ 10 ∷ []
later_of Look = 7 ∷ []

-- an event that brings no other number with it
abbrev Known : Event → Type 0
Known (Open edition timescale c) = Unit {0}
Known Close = Unit {0}
Known (Poll cookie interleaved room) = Unit {0}
Known (Sent t1) = Unit {0}
Known (Receive r) = among r.refusal (0 ∷ 6 ∷ later_of (Receive r)) ≡ true
Known Look = Unit {0}

-- success, or one of the refusals that concern it
abbrev Answers : Event → Reply × Place → Type 0
Answers e w = among w.0.refusal (0 ∷ 6 ∷ later_of e) ≡ true

place-answers : (e : Event) (datagram : List ℕ) (p : Place) → Known e → Answers e (place_do e datagram p)
unfolding place_do
place-answers (Open edition timescale c) datagram closed k = by-test (Answers (Open edition timescale c)) (openable edition timescale c) (λ x. refl) (λ x. refl)
place-answers (Open edition timescale c) datagram (opened o) k = by-test (Answers (Open edition timescale c)) (openable edition timescale c) (λ x. refl) (λ x. refl)
place-answers Close datagram closed k = refl
place-answers Close datagram (opened o) k = refl
place-answers (Poll cookie interleaved room) datagram closed k = refl
place-answers (Poll cookie interleaved room) datagram (opened o) k =
    by-test (Answers (Poll cookie interleaved room)) (eqb cookie.0 0 || is_last cookie.0 o.last) (λ x. refl)
    (λ x. by-test (Answers (Poll cookie interleaved room)) (ltb room (poll_length o.edition o.chunk)) (λ y. refl) (λ y. refl))
place-answers (Sent t1) datagram closed k = by-test (Answers (Sent t1)) (eqb t1 0) (λ x. refl) (λ x. refl)
place-answers (Sent t1) datagram (opened o) k =
    by-test (Answers (Sent t1)) (eqb t1 0) (λ x. refl)
    (λ x. by-request (Answers (Sent t1)) o.outstanding _ refl (λ q e. by-test (Answers (Sent t1)) (eqb q.t1 0) (λ y. refl) (λ y. refl)))
place-answers (Receive r) datagram closed k = by-test (Answers (Receive r)) (eqb r.t4 0) (λ x. refl) (λ x. refl)
place-answers (Receive r) datagram (opened o) k =
    by-test (Answers (Receive r)) (eqb r.t4 0) (λ x. refl)
    (λ x. by-test (Answers (Receive r)) (not (eqb r.refusal 0)) (λ y. k)
    (λ y. by-request (Answers (Receive r)) o.outstanding _ refl
    (λ q e. by-test (Answers (Receive r)) (not (eqb r.client.0 q.client)) (λ z. refl)
    (λ z. by-test (Answers (Receive r)) (r.interleaved && eqb q.server 0) (λ u. refl) (λ u. refl)))))
place-answers Look datagram closed k = refl
place-answers Look datagram (opened o) k = refl

-- ---- the table

-- an event's refusal is one of those that concern it, and leaves the numbers
record Kept (later l : List ℕ) (w : Reply × List ℕ) : Type 0 where
  kept : (w.0.refusal ≡ 0 → ⊥) → w.1 ≡ l
  number : among w.0.refusal (0 ∷ 6 ∷ later) ≡ true

kept_on : (e : Event) (datagram l : List ℕ) → Known e → Kept (later_of e) l (on_numbers e datagram l)
unfolding on_numbers
kept_on e datagram l k =
    let a = (place_do e datagram (decode l)).0 in
    by-test (Kept (later_of e) l) (eqb (length l) record_size && in_range (head_of l))
    (λ x. record {
      kept = λ n. by-test (λ (m : List ℕ). m ≡ l) (eqb a.refusal 0) (λ z. absurd (n (eqb-true _ _ z))) (λ z. refl);
      number = place-answers e datagram (decode l) k;
    })
    (λ x. record { kept = λ n. refl; number = refl })

-- a part put back where it was
part-back : (a : ℕ) (t : List ℕ) → put_part a t (part a t) ≡ t
part-back a t =
    rw (← drop-drop record_size (a * record_size) t, take-append-drop record_size (drop (a * record_size) t), take-append-drop (a * record_size) t)

kept_at : (a : ℕ) (e : Event) (datagram t : List ℕ) → Known e → Kept (later_of e) t (at_numbers a e datagram t)
unfolding event_on
kept_at a e datagram t k =
    let s = kept_on e datagram (part a t) k in
    by-test (Kept (later_of e) t) (eqb (length t) table_size && ltb a 16)
    (λ x. record { kept = λ n. ap (put_part a t) (s.kept n) ∙ part-back a t; number = s.number })
    (λ x. record { kept = λ n. refl; number = refl })

-- ---- the answers

-- what is answered of a reply: its refusal, and nothing else where that is not 0
record Plainly (answer : Reply → Answer) (out : List ℕ) : Type 0 where
  number : (r : Reply) → (answer r).refusal ≡ r.refusal
  plain : (r : Reply) → (r.refusal ≡ 0 → ⊥) → answer r ≡ plain_answer r.refusal out

pub number_of : (n : ℕ) (w : Answer) (out : List ℕ) → w.refusal ≡ 0 → (cond (eqb n 0) w (plain_answer n out)).refusal ≡ n
number_of n w out z = by-test (λ (x : Answer). x.refusal ≡ n) (eqb n 0) (λ e. z ∙ sym (eqb-true n 0 e)) (λ e. refl)

plain_of : (n : ℕ) (w : Answer) (out : List ℕ) → (n ≡ 0 → ⊥) → cond (eqb n 0) w (plain_answer n out) ≡ plain_answer n out
plain_of n w out f = by-test (λ (x : Answer). x ≡ plain_answer n out) (eqb n 0) (λ e. absurd (f (eqb-true n 0 e))) (λ e. refl)

plainly-refusal : Plainly refusal_answer []
plainly-refusal = record { number = λ r. refl; plain = λ r n. refl }

plainly-receive : Plainly receive_answer []
plainly-receive = record { number = λ r. number_of r.refusal _ [] refl; plain = λ r n. plain_of r.refusal _ [] n }

-- ---- the calls

-- a refusal that is answered as it is
plain-refused : (c : Call) (t : List ℕ) (n : ℕ) → among n (refusals_of c) ≡ true → RefusedCall c t (plain_answer n (lent c), t)
plain-refused c t n h = record { table_kept = refl; zeros = refl; number = h }

event-refused : (c : Call) (a : ℕ) (e : Event) (datagram : List ℕ) (answer : Reply → Answer) (t : List ℕ) → Known e → refusals_of c ≡ 6 ∷ later_of e → Plainly answer (lent c)
    → ((answer (at_numbers a e datagram t).0).refusal ≡ 0 → ⊥) → RefusedCall c t (answer (at_numbers a e datagram t).0, (at_numbers a e datagram t).1)
event-refused c a e datagram answer t k r s f =
    let w = at_numbers a e datagram t in
    let i = kept_at a e datagram t k in
    let n = s.number w.0 in
    let g : w.0.refusal ≡ 0 → ⊥ = λ z. f (n ∙ z) in
    record {
      table_kept = i.kept g;
      zeros = s.plain w.0 g ∙ ap (λ (m : ℕ). plain_answer m (lent c)) (sym n);
      number = rw (n, r) (among-not-zero w.0.refusal (6 ∷ later_of e) g i.number);
    }

-- of a call that only reads
abbrev IfRefused : Call → List ℕ → Answer → Type 0
IfRefused c t w = (w.refusal ≡ 0 → ⊥) → RefusedCall c t (w, t)

verdict-refused : (a : ℕ) (id t : List ℕ) (s : Seen) → among s.refusal (0 ∷ 6 ∷ 7 ∷ []) ≡ true → IfRefused (loop_verdict a id) t (verdict_for id s)
verdict-refused a id t s h =
    let P = IfRefused (loop_verdict a id) t in
    by-test P (wrong_id id) (λ x n. plain-refused _ t 6 refl)
    (λ x. by-test P (eqb s.refusal 0) (λ y n. absurd (n refl)) (λ y n. plain-refused _ t s.refusal (among-not-zero s.refusal (6 ∷ 7 ∷ []) n h)))

-- whatever is seen of the associations
publish-refused : (selected : ℕ) (id out t : List ℕ) (see : ℕ → Seen) → IfRefused (publish selected id out) t (publish_for selected id out see)
publish-refused selected id out t see =
    let P = IfRefused (publish selected id out) t in
    by-test P (wrong_id id || not (all_selected in_range_seen see selected 16 0)) (λ x n. plain-refused _ t 6 refl)
    (λ x. by-test P (not (all_selected complete_seen see selected 16 0)) (λ y n. plain-refused _ t 7 refl)
    (λ y. by-test P (ltb (length out) 512) (λ z n. plain-refused _ t 11 refl) (λ z n. absurd (n refl))))

pub refusals : Refusals
unfolding clearing publishing
refusals clear_table t =
    by-test (λ (w : Answer × List ℕ). (w.0.refusal ≡ 0 → ⊥) → RefusedCall clear_table t w) (eqb (length t) table_size)
    (λ x n. absurd (n refl)) (λ x n. plain-refused clear_table t 6 refl)
refusals (open_one a edition timescale c) t = event-refused _ a _ [] refusal_answer t tt refl plainly-refusal
refusals (close_one a) t = event-refused _ a _ [] refusal_answer t tt refl plainly-refusal
refusals (poll a cookie exponent interleaved out) t =
    event-refused (poll a cookie exponent interleaved out) a _ [] (poll_answer cookie exponent interleaved out) t tt refl
    (record { number = λ r. number_of r.refusal _ out refl; plain = λ r n. plain_of r.refusal _ out n })
refusals (sent a t1) t = event-refused _ a _ [] refusal_answer t tt refl plainly-refusal
refusals (receive a datagram t4) t =
    event-refused _ a _ datagram receive_answer t (rw (response-sound (edition_at a t) datagram t4) (sound-number (λ (n : ℕ). among n (0 ∷ refusals_of (receive a datagram t4)) ≡ true) refl refl refl refl refl refl refl datagram 4)) refl plainly-receive
refusals (loop_verdict a id) t = verdict-refused a id t (seen_numbers t a) (kept_at a Look [] t tt).number
refusals (publish selected id out) t =
    by-test (IfRefused (publish selected id out) t) (eqb (length t) table_size)
    (λ x. publish-refused selected id out t (seen_numbers t)) (λ x n. plain-refused _ t 6 refl)
