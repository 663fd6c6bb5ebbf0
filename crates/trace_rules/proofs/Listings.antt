-- The calls that a trace is, record by record, and those of records as they are written. Assumes nothing.
use mathlib.Core.Path.{◌≡◌, refl, ap, ◌∙◌}
use mathlib.Core.List.{List, [], ◌∷◌, ◌++◌, append_assoc}
use Prim.Native.Nat.{ℕ, zero, suc, ◌+◌, ◌<◌, ◌≤◌}
use native.Mathlib.Nat.{zero-add}
use native.Mathlib.Omega.{arith}
use borrow.Author.Tests.{eq-eqb}
use lib.ListN.{length, length-drop}
use Rattle.client_rules.specs.Call as calls
use Rattle.trace_rules.specs.Record.{found_in, data_in, rest_after, action_call, record_call}
use Rattle.trace_rules.specs.Written.{Entry, entry_data, entry_octets, trace_octets, EntryFits, entry_calls}
use Rattle.trace_rules.specs.Trace.{Listing, on_found, list_for, listing}
use Rattle.trace_rules.specs.Claim.{RecordsRead}
use Rattle.trace_rules.specs.declared.Action.{Action}
use Rattle.trace_rules.specs.declared.Action.TheVariants.{Open, Poll, Sent, Receive, Close}
use Rattle.trace_rules.specs.declared.Record.{Record}
use Rattle.trace_rules.specs.declared.Found.{Found}
use Rattle.trace_rules.specs.declared.Found.TheVariants.{Call, End, Wrong}
use Rattle.trace_rules.proofs.Faults.{call-room}
use Rattle.trace_rules.proofs.Entries.{entry_record, entry_found, entry-data, entry-rest}

pub at-end : (s : List ℕ) → length s ≡ 0 → found_in s ≡ End
unfolding found_in
at-end s e = rw (eq-eqb _ _ e)

-- a call takes octets
pub shorter : (s : List ℕ) (r : Record) → found_in s ≡ Call r → length (rest_after s r) < length s
shorter s r e = omega (arith, call-room s r e, length-drop (14 + r.size) s)

-- what follows a record is asked only of fewer octets
later : (n : ℕ) (lend : ℕ → List ℕ) (s : List ℕ) (f g : List ℕ → Listing) → ((u : List ℕ) → length u < length s → f u ≡ g u)
    → on_found n lend s (found_in s) f ≡ on_found n lend s (found_in s) g
later n lend s f g h = go (found_in s) refl
  where
    go : (w : Found) → found_in s ≡ w → on_found n lend s w f ≡ on_found n lend s w g
    go (Call r) e =
        ap (λ (w : Listing). record { calls = record { tag = n; call = record_call (lend n) s r } ∷ w.calls; stop = w.stop })
        (h (rest_after s r) (shorter s r e))
    go End e = refl
    go (Wrong w) e = refl

-- turns enough are turns enough
turns : (m k n : ℕ) (lend : ℕ → List ℕ) (s : List ℕ) → length s ≤ m → length s ≤ k → list_for m n lend s ≡ list_for k n lend s
unfolding list_for
turns zero zero n lend s h i = refl
turns zero (suc k) n lend s h i = rw (at-end s (omega arith))
turns (suc m) zero n lend s h i = rw (at-end s (omega arith))
turns (suc m) (suc k) n lend s h i =
    later n lend s (list_for m (suc n) lend) (list_for k (suc n) lend) (λ u l. turns m k (suc n) lend u (omega arith) (omega arith))

module _ (n : ℕ) (lend : ℕ → List ℕ) (s : List ℕ) where
  pub listing-eq : listing n lend s ≡ on_found n lend s (found_in s) (listing (suc n) lend)
  unfolding listing list_for
  listing-eq =
      turns (length s) (suc (length s)) n lend s (omega arith) (omega arith)
      ∙ later n lend s (list_for (length s) (suc n) lend) (listing (suc n) lend) (λ u l. turns (length s) (length u) (suc n) lend u (omega arith) (omega arith))

  -- where no call is found
  pub listing_none : ((r : Record) → found_in s ≡ Call r → ⊥) → listing n lend s ≡ record { calls = []; stop = found_in s }
  listing_none h = listing-eq ∙ go (found_in s) h
    where
      go : (f : Found) → ((r : Record) → f ≡ Call r → ⊥) → on_found n lend s f (listing (suc n) lend) ≡ record { calls = []; stop = f }
      go (Call r) h = absurd (h r refl)
      go End h = refl
      go (Wrong f) h = refl

-- ---- records as they are written

-- the data of a record counts only where it is a datagram
same-call : (out d x : List ℕ) (a : ℕ) (action : Action) → x ≡ entry_data (record { association = a; action = action; time = 0; datagram = d })
    → action_call out x a action ≡ action_call out d a action
same-call out d x a (Open edition timescale c) e = refl
same-call out d x a (Poll cookie exponent interleaved) e = refl
same-call out d x a (Sent t1) e = refl
same-call out d x a (Receive t4) e = ap (λ (y : List ℕ). calls.receive a y t4) e
same-call out d x a Close e = refl

module _ (n : ℕ) (lend : ℕ → List ℕ) (e : Entry) (f : EntryFits e) (u : List ℕ) where
  abbrev whole : List ℕ
  whole = entry_octets e ++ u

  entry-call : record_call (lend n) whole (entry_record e) ≡ action_call (lend n) e.datagram e.association e.action
  entry-call = same-call (lend n) e.datagram (data_in whole (entry_record e)) e.association e.action (entry-data e f u)

  listing-entry : listing n lend whole ≡ record {
    calls = record { tag = n; call = action_call (lend n) e.datagram e.association e.action } ∷ (listing (suc n) lend u).calls;
    stop = (listing (suc n) lend u).stop;
  }
  listing-entry = listing-eq n lend whole ∙ rw (entry_found e f u, entry-call, entry-rest e f u)

pub records-read : RecordsRead
unfolding trace_octets entry_calls
records-read n lend [] rest f = rw (zero-add n)
records-read n lend (e ∷ es) rest f =
    let k : length es + suc n ≡ suc (length es) + n = omega arith in
    ap (listing n lend) (append_assoc (entry_octets e) (trace_octets es) rest)
    ∙ listing-entry n lend e f.0 (trace_octets es ++ rest)
    ∙ rw (records-read (suc n) lend es rest f.1, k)
