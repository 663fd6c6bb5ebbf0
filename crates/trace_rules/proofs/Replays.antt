-- A replay is the calls of its trace, made directly; traces joined; a wrong record. Assumes nothing.
use mathlib.Core.Path.{◌≡◌, refl, sym, ap, ◌∙◌}
use mathlib.Core.List.{List, [], ◌∷◌, ◌++◌, append-nil}
use Prim.Native.Nat.{ℕ, zero, suc, ◌+◌}
use native.Mathlib.Nat.{zero-add}
use native.Mathlib.Omega.{arith}
use lib.ListN.{length, drop}
use lib.Seq.{drop-drop}
use Rattle.octets.specs.Number.{Octets}
use Rattle.order.specs.Order.{after, answers}
use Rattle.order.proofs.Simulate.{after-append}
use Rattle.client_rules.specs.Numbers.{step_numbers}
use Rattle.trace_rules.specs.Record.{head_length, found_in, rest_after, record_call}
use Rattle.trace_rules.specs.Written.{Entry, trace_octets, entry_calls}
use Rattle.trace_rules.specs.Trace.{Listing, on_found, list_for, listing, calls_in, Sound}
use Rattle.trace_rules.specs.Replay.{Run, on_replayed, replay_at, replay_for, replay}
use Rattle.trace_rules.specs.Claim.{Begins, Replays, JoinedTraces, SoundJoined, WrongRecord}
use Rattle.trace_rules.specs.declared.Found.{Found}
use Rattle.trace_rules.specs.declared.Found.TheVariants.{Call, End, Wrong}
use Rattle.trace_rules.proofs.Faults.{end-no-call, wrong-no-call}
use Rattle.trace_rules.proofs.Listings.{at-end, listing_none, records-read}
use Rattle.trace_rules.proofs.Sounds.{sound-traces, same_stop}

-- ---- calls made directly

-- a list's calls from number n on
abbrev direct : ℕ → Listing → List ℕ → Run
direct n w t = record { answers = answers step_numbers w.calls t; number = length w.calls + n; stop = w.stop; table = after step_numbers w.calls t }

run : (m n : ℕ) (lend : ℕ → List ℕ) (trace : List ℕ) (at : ℕ) (t : List ℕ)
    → replay_for m n lend trace at t ≡ direct n (list_for m n lend (drop at trace)) t
unfolding replay_for replay_at list_for after answers
run zero n lend trace at t = rw (zero-add n)
run (suc m) n lend trace at t = go (found_in (drop at trace)) refl (λ k u. run m (suc n) lend trace k u)
  where
    go : (f : Found) → found_in (drop at trace) ≡ f
        → ((k : ℕ) (u : List ℕ) → replay_for m (suc n) lend trace k u ≡ direct (suc n) (list_for m (suc n) lend (drop k trace)) u)
        → on_replayed n (replay_at trace at (lend n) t).found (replay_at trace at (lend n) t) (replay_for m (suc n) lend trace)
        ≡ direct n (on_found n lend (drop at trace) (found_in (drop at trace)) (list_for m (suc n) lend)) t
    go (Call r) e h =
        let s = drop at trace in
        let c = record_call (lend n) s r in
        let next = at + (head_length + r.size) in
        let w = list_for m (suc n) lend (rest_after s r) in
        let k : length w.calls + suc n ≡ suc (length w.calls) + n = omega arith in
        rw e
        (ap (λ (x : Run). record { answers = record { tag = n; answer = (step_numbers c t).0 } ∷ x.answers; number = x.number; stop = x.stop; table = x.table })
        (h next (step_numbers c t).1 ∙ ap (λ (x : List ℕ). direct (suc n) (list_for m (suc n) lend x) (step_numbers c t).1) (sym (drop-drop (head_length + r.size) at trace)))
        ∙ rw k)
    go End e h = rw (e, zero-add n)
    go (Wrong f) e h = rw (e, zero-add n)

pub replays : Replays
unfolding replay listing
replays lend trace t =
    let w = list_for (length trace) 1 lend trace in
    let k : length w.calls + 1 ≡ suc (length w.calls) = omega arith in
    run (length trace) 1 lend trace 0 t ∙ rw k

-- ---- one trace after another

length-calls : (n : ℕ) (lend : ℕ → List ℕ) (es : List Entry) → length (entry_calls n lend es) ≡ length es
unfolding entry_calls
length-calls n lend [] = refl
length-calls n lend (e ∷ es) = ap suc (length-calls (suc n) lend es)

no-octets : (n : ℕ) (lend : ℕ → List ℕ) → listing n lend [] ≡ record { calls = []; stop = End }
no-octets n lend = listing_none n lend [] (λ r q. end-no-call (sym (at-end [] refl) ∙ q)) ∙ rw (at-end [] refl)

module _ (lend : ℕ → List ℕ) (s u : List ℕ) (b : Octets s) (sound : Sound s) where
  first : (v : Begins s) × (v.rest ≡ [])
  first = (sound-traces s b).0 sound

  abbrev es : List Entry
  es = first.0.entries

  is-written : s ≡ trace_octets es
  is-written = first.0.whole ∙ ap (λ (x : List ℕ). trace_octets es ++ x) first.1 ∙ append-nil (trace_octets es)

  first-calls : calls_in lend s ≡ entry_calls 1 lend es
  first-calls =
      ap (calls_in lend) (first.0.whole ∙ ap (λ (x : List ℕ). trace_octets es ++ x) first.1)
      ∙ ap (λ (w : Listing). w.calls) (records-read 1 lend es [] first.0.fit)
      ∙ ap (λ (w : Listing). entry_calls 1 lend es ++ w.calls) (no-octets (length es + 1) lend)
      ∙ append-nil (entry_calls 1 lend es)

  count : length es + 1 ≡ suc (length (calls_in lend s))
  count = let e = ap length first-calls ∙ length-calls 1 lend es in omega arith

  pub after-sound : listing 1 lend (s ++ u) ≡ record {
    calls = calls_in lend s ++ (listing (suc (length (calls_in lend s))) lend u).calls;
    stop = (listing (suc (length (calls_in lend s))) lend u).stop;
  }
  after-sound =
      ap (λ (x : List ℕ). listing 1 lend (x ++ u)) is-written ∙ records-read 1 lend es u first.0.fit ∙ rw (count, ← first-calls)

-- the numbers play no part in what calls leave
renumbered : (m k n : ℕ) (lend : ℕ → List ℕ) (s t : List ℕ)
    → after step_numbers (list_for m (k + n) lend s).calls t ≡ after step_numbers (list_for m n (λ j. lend (k + j)) s).calls t
unfolding list_for after
renumbered zero k n lend s t = refl
renumbered (suc m) k n lend s t = go (found_in s) (λ u v. renumbered m k (suc n) lend u v)
  where
    go : (f : Found)
        → ((u v : List ℕ) → after step_numbers (list_for m (k + suc n) lend u).calls v ≡ after step_numbers (list_for m (suc n) (λ j. lend (k + j)) u).calls v)
        → after step_numbers (on_found (k + n) lend s f (list_for m (suc (k + n)) lend)).calls t
        ≡ after step_numbers (on_found n (λ j. lend (k + j)) s f (list_for m (suc n) (λ j. lend (k + j)))).calls t
    go (Call r) h =
        let e : suc (k + n) ≡ k + suc n = omega arith in
        rw e (h (rest_after s r) (step_numbers (record_call (lend (k + n)) s r) t).1)
    go End h = refl
    go (Wrong f) h = refl

pub joined-traces : JoinedTraces
unfolding listing
joined-traces lend s u t b sound =
    let w = after-sound lend s u b sound in
    let k = length (calls_in lend s) in
    let e : suc k ≡ k + 1 = omega arith in
    record {
      calls = ap (λ (x : Listing). x.calls) w;
      stop = ap (λ (x : Listing). x.stop) w ∙ same_stop (suc k) 1 lend lend u;
      table =
          ap (λ (x : Run). x.table) (replays lend (s ++ u) t)
          ∙ ap (λ (x : Listing). after step_numbers x.calls t) w
          ∙ after-append step_numbers (calls_in lend s) (listing (suc k) lend u).calls t
          ∙ ap (λ (n : ℕ). after step_numbers (listing n lend u).calls (after step_numbers (calls_in lend s) t)) e
          ∙ renumbered (length u) k 1 lend u (after step_numbers (calls_in lend s) t)
          ∙ sym (ap (λ (x : Run). x.table) (replays (λ j. lend (k + j)) u (after step_numbers (calls_in lend s) t)))
          ∙ ap (λ (x : Run). (replay (λ j. lend (k + j)) u x.table).table) (sym (replays lend s t));
    }

pub sound-joined : SoundJoined
sound-joined s u b h i = (joined-traces (λ k. []) s u [] b h).stop ∙ i

pub wrong-record : WrongRecord
wrong-record lend s rest t f b sound e =
    let k = length (calls_in lend s) in
    let w : listing (suc k) lend rest ≡ record { calls = []; stop = Wrong f } = listing_none (suc k) lend rest (λ r q. wrong-no-call (sym e ∙ q)) ∙ rw e in
    let v : listing 1 lend (s ++ rest) ≡ record { calls = calls_in lend s; stop = Wrong f } = after-sound lend s rest b sound ∙ rw (w, append-nil (calls_in lend s)) in
    replays lend (s ++ rest) t
    ∙ ap (λ (x : Listing). record { answers = answers step_numbers x.calls t; number = suc (length x.calls); stop = x.stop; table = after step_numbers x.calls t }) v
    ∙ ap (λ (x : Run). record { answers = x.answers; number = x.number; stop = Wrong f; table = x.table }) (sym (replays lend s t))
