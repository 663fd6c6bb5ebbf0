-- What an answer returns and leaves on a store whose row is known, and that it leaves such a store. Assumes nothing.
use mathlib.Core.Path.{◌≡◌, refl, sym, ap, ◌∙◌}
use mathlib.Core.Bool.{Bool, true, false, cond}
use mathlib.Core.List.{List, [], ◌∷◌}
use Prim.Native.Nat.{ℕ, ◌<◌, ◌≤◌, ◌^◌}
use native.Mathlib.Omega.{arith}
use borrow.Author.Tests.{eqb-false}
use lib.Dec.{eqb, lit<}
use lib.ListN.{length}
use Rattle.octets.proofs.Tests.{by-test}
use Rattle.store_rules.specs.Row.{Record, held, time_of, without, joined, store_octets}
use Rattle.store_rules.proofs.Rows.{SoundRow}
use Rattle.store_rules.proofs.Stores.{Stores, store-written, stores_row, stores-size}
use Rattle.store_rules.proofs.Kept.{length_without, sound-without, without-absent}
use Rattle.store_rules.proofs.Joins.{length-joined, sound-joined}
use Rattle.responder_rules.specs.Answer.{Given, asking, wants_interleaved, saved_time, output_after, row_after, answer_refusal, answer_of}
use Rattle.responder_rules.specs.Claim.{InRange}
use Rattle.responder_rules.specs.Once.{asked_cookie}
use Rattle.responder_rules.proofs.Accepting.{answerable, answer-written}

-- the times of a sound row are of 64 bits
pub sound-times : (row : List Record) → SoundRow row → (cookie : ℕ) → time_of cookie row < 2 ^ 64
unfolding time_of
sound-times [] g cookie = lit< tt
sound-times (r ∷ row) g cookie = by-test (λ (n : ℕ). n < 2 ^ 64) (eqb r.cookie cookie) (λ e. g.0.time) (λ e. sound-times row g.1 cookie)

-- so arguments that are in range are so with any sound row
pub range-row : (g : Given) (row : List Record) → SoundRow row → InRange g [] → InRange g row
range-row g row sound r = record {
  request = r.request;
  receive = r.receive;
  estimate = r.estimate;
  fresh_cookie = r.fresh_cookie;
  stratum = r.stratum;
  poll = r.poll;
  precision = r.precision;
  timescale = r.timescale;
  era = r.era;
  offset = r.offset;
  flags = r.flags;
  delay = r.delay;
  dispersion = r.dispersion;
  times = sound-times row sound;
}

-- the row that a fresh cookie joins: a record has left or not
abbrev row_left : Bool → ℕ → List Record → List Record
row_left basic c row = cond basic row (without c row)

module _ (basic : Bool) (c : ℕ) (row : List Record) (g : SoundRow row) where
  -- it stays sound
  sound-left : SoundRow (row_left basic c row)
  sound-left = go basic
    where
      go : (b : Bool) → SoundRow (row_left b c row)
      go true = g
      go false = sound-without c row g

  -- it does not grow
  length-left : length (row_left basic c row) ≤ length row
  length-left = go basic
    where
      go : (b : Bool) → length (row_left b c row) ≤ length row
      go true = omega arith
      go false = length_without c row

  -- no cookie comes in
  absent-left : (d : ℕ) → held d row ≡ false → held d (row_left basic c row) ≡ false
  absent-left d h = go basic
    where
      go : (b : Bool) → held d (row_left b c row) ≡ false
      go true = h
      go false = without-absent c d row h

-- a saved time stands in the row, and the request wants it
pub record Saved (g : Given) (row : List Record) : Type 0 where
  pub wanted : wants_interleaved (asking g) ≡ true
  pub its-time : saved_time (asking g) row ≡ time_of (asked_cookie g) row
  pub some : time_of (asked_cookie g) row ≡ 0 → ⊥
  pub row-after : (n : ℕ) → row_after (asking g) g.fresh_cookie n row ≡ joined n g.fresh_cookie (without (asked_cookie g) row)

-- there is one where the saved time isn't 0
pub is-saved : (g : Given) (row : List Record) → eqb (saved_time (asking g) row) 0 ≡ false → Saved g row
is-saved g row e =
    let w = wants (wants_interleaved (asking g)) (time_of (asked_cookie g) row) (eqb-false _ 0 e) in
    let t : saved_time (asking g) row ≡ time_of (asked_cookie g) row = rw w in
    record {
      wanted = w;
      its-time = t;
      some = λ z. eqb-false _ 0 e (t ∙ z);
      row-after = λ n. rw (w, ← t, e);
    }
  where
    wants : (b : Bool) (t : ℕ) → (cond b t 0 ≡ 0 → ⊥) → b ≡ true
    wants true t h = refl
    wants false t h = absurd (h refl)

module _ {s : List ℕ} {n : ℕ} {row : List Record} (w : Stores s n row) (g : Given) (out : List ℕ) where
  -- what the fresh cookie joins, and the row after the answer
  abbrev left : List Record
  left = row_left (eqb (saved_time (asking g) row) 0) (asking g).server_cookie.0 row

  abbrev next : List Record
  next = row_after (asking g) g.fresh_cookie n row

  -- an answer that is not refused
  pub answer-result : answer_refusal g s out ≡ 0 → answer_of g s out
      ≡ record { refusal = 0; size = length g.request; out = output_after g row out; store = store_octets n next }
  answer-result e = answer-written g s out e ∙ rw (stores_row w, stores-size w)

  -- where a fresh cookie is needed, it is not 0 and not in the row
  pub fresh-new : answer_refusal g s out ≡ 0 → wants_interleaved (asking g) ≡ true → (g.fresh_cookie ≡ 0 → ⊥) × (held g.fresh_cookie row ≡ false)
  fresh-new e b = let p = (answerable g s out e).fresh b in (p.0, ap (held g.fresh_cookie) (sym (stores_row w)) ∙ p.1)

  -- the row after it is sound and within its size
  pub answer-stores : g.fresh_cookie < 2 ^ 64 → answer_refusal g s out ≡ 0 → Stores (store_octets n next) n next
  answer-stores small e = go (wants_interleaved (asking g)) (fresh-new e)
    where
      go : (b : Bool) → (b ≡ true → (g.fresh_cookie ≡ 0 → ⊥) × (held g.fresh_cookie row ≡ false))
          → Stores (store_octets n (cond b (joined n g.fresh_cookie left) row)) n (cond b (joined n g.fresh_cookie left) row)
      go true new =
          let basic = eqb (saved_time (asking g) row) 0 in
          let c = (asking g).server_cookie.0 in
          let absent = absent-left basic c row w.sound g.fresh_cookie (new refl).1 in
          let sound = sound-joined n g.fresh_cookie left (new refl).0 small absent (sound-left basic c row w.sound) in
          let l = length-left basic c row w.sound in
          let k = w.within in
          store-written n (joined n g.fresh_cookie left) sound (length-joined n g.fresh_cookie left w.low (omega arith)) w.low w.high
      go false new = store-written n row w.sound w.within w.low w.high
