-- A call with the values of a line's words does to the store what the line asks. Assumes nothing.
use mathlib.Core.Path.{◌≡◌, ap, ◌∙◌}
use mathlib.Core.Bool.{Bool, true, false, cond}
use mathlib.Core.List.{List, []}
use Prim.Native.Nat.{ℕ, ◌+◌, ◌-◌, ◌*◌, ◌%◌, ◌<◌, ◌≤◌}
use native.Mathlib.Omega.{arith}
use borrow.Author.Tests.{eq-eqb, ne_eqb, lt-ltb, le-ltb}
use borrow.Rule.Slice.PartMut.{put_mid, put_same}
use lib.ListN.{length, take, drop}
use Rattle.octets.specs.Number.{put_at}
use Rattle.octets.specs.Part.{copy_at}
use Rattle.words.specs.Line.{number_at, bits_at, octets_at}
use Rattle.store_rules.specs.Row.{wrong_size, store_octets, size_of, cleared, reporting}
use Rattle.responder_rules.specs.Answer.{Given, Outcome, outcome, answer_named}
use Rattle.header.specs.declared.edition.Edition.{Edition}
use Rattle.refusal.specs.Refusal.{refusal_number}
use Rattle.refusal.specs.declared.Refusal.{Refusal}
use Rattle.refusal.specs.declared.Refusal.TheVariants.{BadLength, BadVersion, BadMode, BadField, BadPadding, BadArgument, BadState, BadCookie, NotAsked, NotInterleaved, NoRoom, NotStored, AfterMac}
use Rattle.actions.specs.Given.{given_from}
use Rattle.std.proofs.Common.{Result}
use Rattle.actions.specs.Kept.{length_of, store_of, store_reported, store_answered, store_after, kept_cleared, kept_lent, kept_after}

module _ (line s s' : List ℕ) where
  pub reported : (r c t : ℕ) → c ≡ number_at line 1 → t ≡ number_at line 2 → (r, s') ≡ reporting s c t → s' ≡ store_reported line s
  unfolding store_reported
  reported r c t e f z = ap (λ (w : ℕ × List ℕ). w.1) z ∙ rw (e, f)

  -- the store of an answer, where its output was written
  pub answered : (g : Edition → Given) (r : Result ℕ ℕ) (out out' : List ℕ) → out ≡ octets_at line 18
      → outcome r out' s' ≡ answer_named (bits_at 8 line 1) g s out → s' ≡ (answer_named (bits_at 8 line 1) g s (octets_at line 18)).store
  answered g r out out' e z = ap (λ (o : Outcome). o.store) z ∙ rw e

  -- and what it was given
  pub answered-all : (g : Edition → Given) (request filter information : List ℕ) → g ≡ given_from line request filter information
      → request ≡ octets_at line 2 → filter ≡ octets_at line 16 → information ≡ octets_at line 17
      → s' ≡ (answer_named (bits_at 8 line 1) g s (octets_at line 18)).store → s' ≡ store_answered line s
  unfolding store_answered
  answered-all g request filter information d e f h z = z ∙ rw (d, e, f, h)

-- no refusal has the number 0
pub some_refusal : (r : Refusal) → refusal_number r ≡ 0 → ⊥
some_refusal BadLength e = omega arith
some_refusal BadVersion e = omega arith
some_refusal BadMode e = omega arith
some_refusal BadField e = omega arith
some_refusal BadPadding e = omega arith
some_refusal BadArgument e = omega arith
some_refusal BadState e = omega arith
some_refusal BadCookie e = omega arith
some_refusal NotAsked e = omega arith
some_refusal NotInterleaved e = omega arith
some_refusal NoRoom e = omega arith
some_refusal NotStored e = omega arith
some_refusal AfterMac e = omega arith

module _ (kept : List ℕ) where
  pub lent : (kept' kept'' octets octets' : List ℕ) → octets ≡ octets' → kept' ≡ put_at kept 0 2 (length octets % 4097)
      → kept'' ≡ copy_at kept' 2 octets 0 (length octets % 4097) → kept'' ≡ kept_lent octets' kept
  unfolding kept_lent
  lent kept' kept'' octets octets' e f g = g ∙ rw (f, e)

  module _ (n r : ℕ) (s : List ℕ) (z : (r, s) ≡ cleared (take (n + 2 - 2) (drop 2 kept))) where
    clear-as : (r, s) ≡ cleared (store_of n kept)
    clear-as = let e : n + 2 - 2 ≡ n = omega arith in rw e at z

    pub cleared-kept : (kept' : List ℕ) → r ≡ 0 → kept' ≡ put_at (put_mid 2 (n + 2 - 2) kept s) 0 2 n → (r, kept') ≡ kept_cleared n kept
    unfolding kept_cleared
    cleared-kept kept' k f =
        let e : n + 2 - 2 ≡ n = omega arith in
        rw (← clear-as, eq-eqb r 0 k) (rw (k, f, e))

    same_store : (r ≡ 0 → ⊥) → s ≡ store_of n kept
    unfolding cleared
    same_store k = go (wrong_size (store_of n kept)) clear-as
      where
        go : (b : Bool) → ◌≡◌ {A = ℕ × List ℕ} (r, s) (cond b (6, store_of n kept) (0, store_octets (size_of (store_of n kept)) [])) → s ≡ store_of n kept
        go true e = ap (λ (w : ℕ × List ℕ). w.1) e
        go false e = absurd (k (ap (λ (w : ℕ × List ℕ). w.0) e))

    pub refused-kept : (r ≡ 0 → ⊥) → (r, put_mid 2 (n + 2 - 2) kept s) ≡ kept_cleared n kept
    unfolding kept_cleared
    refused-kept k =
        let e : n + 2 - 2 ≡ n = omega arith in
        rw (← clear-as, ne_eqb r 0 k) (rw (e, same_store k, put_same 2 n kept))

module _ (call : ℕ) (line kept : List ℕ) where
  pub run_short : length kept < 4098 → kept ≡ kept_after call line kept
  unfolding kept_after
  run_short h = rw (lt-ltb (length kept) 4098 h)

  module _ (h : 4098 ≤ length kept) where
    pub run-clear : (kept' : List ℕ) (r : ℕ) → call ≡ 15 → (r, kept') ≡ kept_cleared (bits_at 8 line 1 * 16) kept → kept' ≡ kept_after call line kept
    unfolding kept_after
    run-clear kept' r k z = ap (λ (w : ℕ × List ℕ). w.1) z ∙ rw (le-ltb (length kept) 4098 h, k)

    pub run-lend : (kept' : List ℕ) → call ≡ 16 → kept' ≡ kept_lent (octets_at line 1) kept → kept' ≡ kept_after call line kept
    unfolding kept_after
    run-lend kept' k z = z ∙ rw (le-ltb (length kept) 4098 h, k)

    module _ (end : ℕ) (s : List ℕ) (e : end ≡ length_of kept + 2) where
      pub run-report : call ≡ 17 → s ≡ store_reported line (take (end - 2) (drop 2 kept)) → put_mid 2 (end - 2) kept s ≡ kept_after call line kept
      unfolding kept_after store_after
      run-report k z =
          let f : end - 2 ≡ length_of kept = omega arith in
          rw (le-ltb (length kept) 4098 h, k) (rw (z, f))

      pub run-answer : call ≡ 18 → s ≡ store_answered line (take (end - 2) (drop 2 kept)) → put_mid 2 (end - 2) kept s ≡ kept_after call line kept
      unfolding kept_after store_after
      run-answer k z =
          let f : end - 2 ≡ length_of kept = omega arith in
          rw (le-ltb (length kept) 4098 h, k) (rw (z, f))
