-- What a report comes to, by the tests that it passes. Assumes nothing.
use mathlib.Core.Path.{◌≡◌, sym, ap, ◌∙◌}
use mathlib.Core.Bool.{true, false}
use mathlib.Core.List.{List}
use Prim.Native.Nat.{ℕ, ◌+◌, ◌<◌, ◌≤◌}
use borrow.Author.Tests.{eq-eqb, ne_eqb, lt-ltb, le-ltb}
use lib.ListN.{length}
use Rattle.octets.specs.Number.{Octets, get_at, put_at}
use Rattle.store_rules.specs.Row.{held, time_of, row_of, wrong_store, reporting}
use Rattle.store_rules.specs.Place.{place_of}
use Rattle.store_rules.proofs.Stores.{store-read}
use Rattle.store_rules.proofs.Changed.{held-zero, place-held, place-time, place-reported}

pub report-wrong : (s : List ℕ) (c t : ℕ) → wrong_store s ≡ true → (6, s) ≡ reporting s c t
unfolding reporting
report-wrong s c t h = rw h

module _ (s : List ℕ) (c t : ℕ) (h : wrong_store s ≡ false) where
  pub report-no-time : t ≡ 0 → (6, s) ≡ reporting s c t
  unfolding reporting
  report-no-time z = rw (h, eq-eqb t 0 z)

  module _ (time : t ≡ 0 → ⊥) where
    -- the cookie isn't in the row
    absent : held c (row_of s) ≡ false → (12, s) ≡ reporting s c t
    unfolding reporting
    absent e = rw (h, ne_eqb t 0 time, e)

    pub report-no-cookie : Octets s → c ≡ 0 → (12, s) ≡ reporting s c t
    report-no-cookie b z = absent (ap (λ (d : ℕ). held d (row_of s)) z ∙ held-zero (row_of s) (store-read s b h).sound)

    module _ (b : Octets s) (cookie : c ≡ 0 → ⊥) (p : ℕ) (e : p ≡ place_of s c) where
      pub report-absent : length s ≤ p → (12, s) ≡ reporting s c t
      report-absent l = absent (place-held (store-read s b h) c cookie ∙ rw (← e) (le-ltb p (length s) l))

      module _ (l : p < length s) (v : ℕ) (g : v ≡ get_at s (p + 8) 8) where
        found : held c (row_of s) ≡ true
        found = place-held (store-read s b h) c cookie ∙ rw (← e) (lt-ltb p (length s) l)

        its-time : time_of c (row_of s) ≡ v
        its-time = place-time (store-read s b h) c ∙ sym (g ∙ ap (λ (k : ℕ). get_at s (k + 8) 8) e)

        pub report-again : (v ≡ 0 → ⊥) → (12, s) ≡ reporting s c t
        unfolding reporting
        report-again z = rw (h, ne_eqb t 0 time, found, its-time, ne_eqb v 0 z)

        pub report-done : v ≡ 0 → (0, put_at s (p + 8) 8 t) ≡ reporting s c t
        unfolding reporting
        report-done z =
            rw (h, ne_eqb t 0 time, found, its-time, eq-eqb v 0 z)
            (ap (λ (l : List ℕ). (0, l)) (ap (λ (k : ℕ). put_at s (k + 8) 8 t) e ∙ place-reported (store-read s b h) c t found))
