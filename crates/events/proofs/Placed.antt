-- Opening, a report and a response on the place that numbers stand for, by tests of the numbers. Assumes nothing.
use mathlib.Core.Path.{◌≡◌, refl, sym, ap, ◌∙◌}
use mathlib.Core.Bool.{Bool, true, false, cond, not, ◌||◌, ◌&&◌, true≢false}
use mathlib.Core.List.{List}
use Prim.Native.Nat.{ℕ}
use Rattle.std.specs.Prelude.{Option, Some, None, Result, Ok, Err}
use Rattle.exchange.specs.Response.{refused_response, responded_by}
use Rattle.exchange.specs.declared.response.Response as code
use lib.Dec.{eqb}
use lib.ListN.{replicate}
use borrow.Author.Tests.{ne_eqb, eq-eqb, eqb-true, eqb-false}
use Rattle.header.specs.Edition.{is_edition, edition_of}
use Rattle.state.specs.Rules.{plain_reply}
use Rattle.state.specs.Plain.{opened, newly_opened, reported, refuse_at, place_do, Outstanding, Place, received, reply_of}
use Rattle.state.specs.Numbers.{no_request, none_saved, count_taken, place_in, request_in, opened_in}
use Rattle.state.specs.Change.{change, Leaves}
use Rattle.state.specs.Event.{Sent, Receive}
use Rattle.state.specs.declared.head.Head.{Head}
use Rattle.state.specs.declared.head.Filling.TheVariants.{Clear}
use Rattle.state.proofs.Flags.{count-first}
use Rattle.state.specs.Range.{last_in_range}
use Rattle.state.proofs.Ranges.{edition-back}
use Rattle.exchange.specs.Response.{Response}
use Rattle.state.specs.Reply.{Reply}
use Rattle.state.proofs.Changes.{by_place, on-request}

-- the numbers of an association where so many octets were taken, and all else is as after opening
abbrev opened_head : (edition timescale c taken : ℕ) → Head
opened_head edition timescale c taken = record {
  state = edition;
  timescale = timescale;
  chunk = c;
  next = 0;
  taken = taken;
  last = record { 0 = 0 };
  outstanding = 0;
  request = no_request;
  saved = none_saved;
  missed = 0;
}

-- a fresh place has the numbers of one where no octet was taken
pub opened-fresh : (h : Head) (edition timescale c : ℕ) → is_edition edition ≡ true
    → Leaves h (change (plain_reply 0) (opened_head edition timescale c 0) Clear) (plain_reply 0) (λ datagram f. opened (newly_opened (edition_of edition) timescale c))
opened-fresh h edition timescale c e = record {
  leaves = λ datagram f. ap (λ (k : ℕ). (plain_reply 0, (opened_head edition timescale c k, replicate 512 0))) (sym (count-first 0))
      ∙ ap (λ (n : ℕ). (plain_reply 0, (opened_head n timescale c (count_taken (replicate 512 false)), replicate 512 0))) (sym (edition-back edition e));
}

module _ (h : Head) (t1 : ℕ) (timed : t1 ≡ 0 → ⊥) (datagram f : List ℕ) where
  abbrev ByTests : Type 0
  ByTests = place_do (Sent t1) datagram (place_in h f)
      ≡ cond (eqb h.state 0 || eqb h.outstanding 0 || not (eqb h.request.t1 0)) (refuse_at 7 (place_in h f)) (plain_reply 0, opened (reported t1 (opened_in h f) (request_in h)))

  pub reports : ByTests
  unfolding place_do
  reports = go (eqb h.state 0) (eqb h.outstanding 0) (eqb h.request.t1 0) refl refl refl
    where
      go : (s a b : Bool) → eqb h.state 0 ≡ s → eqb h.outstanding 0 ≡ a → eqb h.request.t1 0 ≡ b → ByTests
      go true a b x y z = rw (x, ne_eqb _ _ timed)
      go false true b x y z = rw (x, y, ne_eqb _ _ timed)
      go false false true x y z = rw (x, y, z, ne_eqb _ _ timed)
      go false false false x y z = rw (x, y, z, ne_eqb _ _ timed)

-- ---- a response

module _ (r : Response) (h : Head) (datagram f : List ℕ) where
  -- what comes after the outstanding request and its cookie
  abbrev rest : Outstanding → Reply × Place
  rest k =
      cond (r.interleaved && eqb k.server 0) (refuse_at 10 (opened (opened_in h f)))
      (reply_of r (opened_in h f) k, opened (received r datagram (opened_in h f) k))

  pub asked : (r.t4 ≡ 0 → ⊥) → (h.state ≡ 0 → ⊥) → r.refusal ≡ 0 → place_do (Receive r) datagram (place_in h f)
      ≡ cond (eqb h.outstanding 0 || not (eqb r.client.0 h.last.0)) (refuse_at 9 (opened (opened_in h f))) (rest (request_in h))
  unfolding place_do
  asked timed is_open sound =
      rw (ne_eqb _ _ is_open, ne_eqb _ _ timed, eq-eqb _ _ sound)
      (on-request (request_in h) (eqb h.outstanding 0) (λ k. not (eqb r.client.0 k.client)) (refuse_at 9 (opened (opened_in h f))) rest)

-- what was read, or why nothing was, with its T4
pub responded-t4 : {R : Type 0} (number : R → ℕ) (w : Result code.Response R) (t4 : ℕ) → (responded_by number w t4).t4 ≡ t4
responded-t4 number (Ok r) t4 = refl
responded-t4 number (Err e) t4 = refl

module _ {R : Type 0} (number : R → ℕ) (w : Result code.Response R) (t4 : ℕ) (h : Head) (datagram f : List ℕ) where
  -- 6 comes first, then 7
  pub untimed : t4 ≡ 0 → place_do (Receive (responded_by number w t4)) datagram (place_in h f) ≡ refuse_at 6 (place_in h f)
  unfolding place_do
  untimed z = by_place (λ (p : Place). place_do (Receive (responded_by number w t4)) datagram p ≡ refuse_at 6 p) h f (rw (responded-t4 number w t4, eq-eqb _ _ z)) (rw (responded-t4 number w t4, eq-eqb _ _ z))

  pub not-open : (t4 ≡ 0 → ⊥) → h.state ≡ 0 → place_do (Receive (responded_by number w t4)) datagram (place_in h f) ≡ refuse_at 7 (place_in h f)
  unfolding place_do
  not-open timed z = rw (eq-eqb _ _ z, responded-t4 number w t4, ne_eqb _ _ timed)

-- a request that is outstanding has a client cookie
none-of-zeros : (h : Head) → last_in_range h ≡ true → eqb h.outstanding 0 || not (eqb 0 h.last.0) ≡ true
none-of-zeros h ranges = go (eqb h.last.0 0) refl (eqb h.outstanding 0) refl
  where
    go : (l : Bool) → eqb h.last.0 0 ≡ l → (o : Bool) → eqb h.outstanding 0 ≡ o → eqb h.outstanding 0 || not (eqb 0 h.last.0) ≡ true
    go l i true j = rw j refl
    go true i false j = absurd (true≢false (sym (rw (i, j) at ranges)))
    go false i false j = rw (j, ne_eqb 0 h.last.0 (λ z. eqb-false _ _ i (sym z))) refl

module _ (n t4 : ℕ) (h : Head) (datagram f : List ℕ) (timed : t4 ≡ 0 → ⊥) (is_open : h.state ≡ 0 → ⊥) where
  -- then the refusal of the datagram
  pub unread : (n ≡ 0 → ⊥) → place_do (Receive (refused_response n t4)) datagram (place_in h f) ≡ refuse_at n (place_in h f)
  unfolding place_do
  unread refuses = rw (ne_eqb _ _ is_open, ne_eqb _ _ timed, ne_eqb _ _ refuses)

  -- number 0 refuses nothing, and the zeros are no outstanding request's
  pub unread-by : last_in_range h ≡ true → place_do (Receive (refused_response n t4)) datagram (place_in h f) ≡ refuse_at (cond (eqb n 0) 9 n) (place_in h f)
  unread-by ranges = go (eqb n 0) refl
    where
      go : (b : Bool) → eqb n 0 ≡ b → place_do (Receive (refused_response n t4)) datagram (place_in h f) ≡ refuse_at (cond b 9 n) (place_in h f)
      go false i = unread (eqb-false n 0 i)
      go true i = asked (refused_response n t4) h datagram f timed is_open (eqb-true n 0 i) ∙ rw (none-of-zeros h ranges, ne_eqb _ _ is_open)

pub unread-refuses : (n : ℕ) → eqb (cond (eqb n 0) 9 n) 0 ≡ false
unread-refuses n = go (eqb n 0) refl
  where
    go : (b : Bool) → eqb n 0 ≡ b → eqb (cond b 9 n) 0 ≡ false
    go true i = refl
    go false i = i

-- whether a chunk is taken, by where its data start
start_or : Option ℕ → ℕ
start_or (Some x) = x
start_or None = 0

is_some : Option ℕ → Bool
is_some (Some x) = true
is_some None = false

pub started : (b : Bool) {x y : ℕ} → Some x ≡ cond b (Some y) None → (b ≡ true) × (x ≡ y)
unfolding start_or is_some
started true e = (refl, ap start_or e)
started false e = absurd (true≢false (ap is_some e))
