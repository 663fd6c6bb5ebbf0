-- Every trace is records as they are written, and then its end or a wrong record. Assumes nothing.
use mathlib.Core.Path.{◌≡◌, refl, sym, ap, ◌∙◌}
use mathlib.Core.Bool.{not}
use mathlib.Core.List.{List, [], ◌∷◌, ◌++◌, append_assoc}
use Prim.Native.Nat.{ℕ, zero, suc, ◌+◌, ◌≤◌}
use native.Mathlib.Omega.{arith}
use borrow.Author.Tests.{eqb-true}
use lib.Dec.{eqb, ltb}
use lib.ListN.{length}
use Rattle.octets.specs.Number.{Octets, num}
use Rattle.octets.proofs.Tests.{by-test}
use Rattle.octets.proofs.Written.{drop-octets}
use Rattle.trace_rules.specs.Record.{mark, head_length, is_kind, data_size, wrong_mode, found_in, rest_after}
use Rattle.trace_rules.specs.Written.{entry_octets, trace_octets}
use Rattle.trace_rules.specs.Trace.{Listing, on_found, list_for, listing, Sound}
use Rattle.trace_rules.specs.Claim.{Begins, SoundTraces, OtherTraces}
use Rattle.trace_rules.specs.declared.Record.{Record}
use Rattle.trace_rules.specs.declared.Fault.{Fault}
use Rattle.trace_rules.specs.declared.Found.{Found}
use Rattle.trace_rules.specs.declared.Found.TheVariants.{Call, End, Wrong}
use Rattle.trace_rules.proofs.Faults.{end-no-call, wrong-no-call}
use Rattle.trace_rules.proofs.Recorded.{entry_in, found-recorded}
use Rattle.trace_rules.proofs.Listings.{at-end, shorter, listing_none, records-read}

call-no-end : {r : Record} → Call r ≡ End → ⊥
call-no-end q = let z : ◌≡◌ {A = ℕ} 0 1 = cc in omega arith

wrong-no-end : {f : Fault} → Wrong f ≡ End → ⊥
wrong-no-end q = let z : ◌≡◌ {A = ℕ} 0 1 = cc in omega arith

empty : (s : List ℕ) → length s ≡ 0 → s ≡ []
empty [] e = refl
empty (x ∷ s) e = absurd (omega arith)

-- only nothing ends a trace
pub end_empty : (s : List ℕ) → found_in s ≡ End → s ≡ []
unfolding found_in
end_empty s =
    by-test P (eqb (length s) 0) (λ t q. empty s (eqb-true _ _ t)) (λ t.
    by-test P (ltb (length s) head_length) (λ u q. absurd (wrong-no-end q)) (λ u.
    by-test P (not (eqb (num s 0 2) mark)) (λ u q. absurd (wrong-no-end q)) (λ u.
    by-test P (not (is_kind (num s 2 1))) (λ u q. absurd (wrong-no-end q)) (λ u.
    by-test P (not (eqb (num s 4 2) (data_size (num s 2 1) (num s 4 2)))) (λ u q. absurd (wrong-no-end q)) (λ u.
    by-test P (ltb (length s) (head_length + num s 4 2)) (λ u q. absurd (wrong-no-end q)) (λ u.
    by-test P (wrong_mode (num s 2 1) s) (λ u q. absurd (wrong-no-end q)) (λ u q. absurd (call-no-end q))))))))
  where
    P : Found → Type 0
    P f = f ≡ End → s ≡ []

-- ---- what a trace begins with

pub record Split (s : List ℕ) : Type 0 where
  pub begins : Begins s
  pub no_call : (r : Record) → found_in begins.rest ≡ Call r → ⊥

-- no record
alone : (s : List ℕ) → ((r : Record) → found_in s ≡ Call r → ⊥) → Split s
unfolding trace_octets
alone s h = record { begins = record { entries = []; rest = s; whole = refl; fit = tt }; no_call = h }

-- one more
one_more : (s : List ℕ) (r : Record) → Octets s → found_in s ≡ Call r → Split (rest_after s r) → Split s
unfolding trace_octets
one_more s r b e w =
    let own = found-recorded s r b e in
    let v = w.begins in
    record {
      begins = record {
        entries = entry_in s r ∷ v.entries;
        rest = v.rest;
        whole =
            sym own.whole ∙ ap (λ (u : List ℕ). entry_octets (entry_in s r) ++ u) v.whole
            ∙ sym (append_assoc (entry_octets (entry_in s r)) (trace_octets v.entries) v.rest);
        fit = (own.fit, v.fit);
      };
      no_call = w.no_call;
    }

split-for : (m : ℕ) (s : List ℕ) → length s ≤ m → Octets s → Split s
split-for zero s h b = alone s (λ r e. end-no-call (sym (at-end s (omega arith)) ∙ e))
split-for (suc m) s h b = go (found_in s) refl (λ r e. split-for m (rest_after s r) (omega (arith, shorter s r e)) (drop-octets (14 + r.size) s b))
  where
    go : (f : Found) → found_in s ≡ f → ((r : Record) → found_in s ≡ Call r → Split (rest_after s r)) → Split s
    go (Call r) e more = one_more s r b e (more r e)
    go End e more = alone s (λ r q. end-no-call (sym e ∙ q))
    go (Wrong f) e more = alone s (λ r q. wrong-no-call (sym e ∙ q))

pub split : (s : List ℕ) → Octets s → Split s
split s b = split-for (length s) s (omega arith) b

-- what ends a trace is what it does not begin with
module _ (n : ℕ) (lend : ℕ → List ℕ) (s : List ℕ) (w : Split s) where
  pub split-stop : (listing n lend s).stop ≡ found_in w.begins.rest
  split-stop =
      let v = w.begins in
      ap (λ (x : List ℕ). (listing n lend x).stop) v.whole
      ∙ ap (λ (x : Listing). x.stop) (records-read n lend v.entries v.rest v.fit)
      ∙ ap (λ (x : Listing). x.stop) (listing_none (length v.entries + n) lend v.rest w.no_call)

pub sound-traces : SoundTraces
sound-traces s b = (λ h. ((split s b).begins, end_empty _ (sym (split-stop 1 (λ k. []) s (split s b)) ∙ h)), λ x. sound x.0 x.1)
  where
    sound : (v : Begins s) → v.rest ≡ [] → Sound s
    sound v e =
        ap (λ (x : List ℕ). (listing 1 (λ k. []) x).stop) v.whole
        ∙ ap (λ (x : Listing). x.stop) (records-read 1 (λ k. []) v.entries v.rest v.fit)
        ∙ ap (λ (x : List ℕ). (listing (length v.entries + 1) (λ k. []) x).stop) e
        ∙ ap (λ (x : Listing). x.stop) (listing_none (length v.entries + 1) (λ k. []) [] (λ r q. end-no-call (sym (at-end [] refl) ∙ q)))
        ∙ at-end [] refl

pub other-traces : OtherTraces
other-traces s b n = go (found_in (split s b).begins.rest) refl
  where
    go : (f : Found) → found_in (split s b).begins.rest ≡ f → (v : Begins s) × (f : Fault) × (found_in v.rest ≡ Wrong f)
    go (Call r) e = absurd ((split s b).no_call r e)
    go End e = absurd (n (split-stop 1 (λ k. []) s (split s b) ∙ e))
    go (Wrong f) e = ((split s b).begins, f, e)

-- what ends a trace does not depend on numbers and on what is lent
stop-for : (m n k : ℕ) (lend lend' : ℕ → List ℕ) (s : List ℕ) → (list_for m n lend s).stop ≡ (list_for m k lend' s).stop
unfolding list_for
stop-for zero n k lend lend' s = refl
stop-for (suc m) n k lend lend' s = go (found_in s) (λ u. stop-for m (suc n) (suc k) lend lend' u)
  where
    go : (f : Found) → ((u : List ℕ) → (list_for m (suc n) lend u).stop ≡ (list_for m (suc k) lend' u).stop)
        → (on_found n lend s f (list_for m (suc n) lend)).stop ≡ (on_found k lend' s f (list_for m (suc k) lend')).stop
    go (Call r) h = h (rest_after s r)
    go End h = refl
    go (Wrong f) h = refl

pub same_stop : (n k : ℕ) (lend lend' : ℕ → List ℕ) (s : List ℕ) → (listing n lend s).stop ≡ (listing k lend' s).stop
unfolding listing
same_stop n k lend lend' s = stop-for (length s) n k lend lend' s
