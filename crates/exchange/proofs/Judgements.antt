-- Judgement 5 is given exactly where none of 1 to 4 applies and one of the four differences is half an era. A response that can be used has a
-- measurement. Assumes nothing.
use mathlib.Core.Path.{◌≡◌, refl}
use mathlib.Core.Bool.{Bool, true, false, cond, not, ◌&&◌, ◌||◌, false≢true}
use Prim.Native.Nat.{ℕ}
use native.Mathlib.Omega.{arith}
use borrow.Author.Tests.{eqb-true, eqb-false, eq-eqb, ne_eqb, ltb-false, le-ltb, not-false}
use lib.Dec.{eqb, ltb}
use Rattle.std.proofs.lemmas.Bool.{or_parts as neither}
use Rattle.measure.specs.Measure.{measurement}
use Rattle.exchange.specs.Claim.{HalfEraFirst, HalfEraJudged}
use Rattle.exchange.specs.Judging.{judged}
use Rattle.exchange.specs.Response.{Response}
use Rattle.exchange.specs.declared.judging.Times.{Times}

-- an earlier reason, of another number, does not apply
passed : (b : Bool) (n x : ℕ) → cond b n x ≡ 5 → (n ≡ 5 → ⊥) → (b ≡ false) × (x ≡ 5)
passed true n x e f = absurd (f e)
passed false n x e f = (refl, e)

-- the previous timescale counts for an interleaved response
unless-other : (i : Bool) (p s : ℕ) → (i && not (eqb p s)) ≡ false → i ≡ true → p ≡ s
unless-other true p s e q = eqb-true p s (not-false (eqb p s) e)
unless-other false p s e q = absurd (false≢true q)

no_other : (i : Bool) (p s : ℕ) → (i ≡ true → p ≡ s) → (i && not (eqb p s)) ≡ false
no_other true p s f = rw (eq-eqb p s (f refl))
no_other false p s f = refl

module _ (r : Response) (timescale previous : ℕ) (t : Times) where
  only : judged r timescale previous t ≡ 5 → HalfEraFirst r timescale previous t
  only e =
      let one = passed (eqb r.leap 3) _ _ e (λ q. omega arith) in
      let two = passed (ltb r.stratum 1 || ltb 15 r.stratum) _ _ one.1 (λ q. omega arith) in
      let three = passed (not (eqb r.timescale timescale) || (r.interleaved && not (eqb previous timescale))) _ _ two.1 (λ q. omega arith) in
      let four = passed (eqb t.t1 0 || eqb t.t2 0 || eqb t.t3 0 || eqb t.t4 0) _ _ three.1 (λ q. omega arith) in
      let strata = neither (ltb r.stratum 1) (ltb 15 r.stratum) two.0 in
      let scales = neither (not (eqb r.timescale timescale)) (r.interleaved && not (eqb previous timescale)) three.0 in
      let t4 = neither (eqb t.t1 0 || eqb t.t2 0 || eqb t.t3 0) (eqb t.t4 0) four.0 in
      let t3 = neither (eqb t.t1 0 || eqb t.t2 0) (eqb t.t3 0) t4.0 in
      let t2 = neither (eqb t.t1 0) (eqb t.t2 0) t3.0 in
      record {
        synchronized = eqb-false _ _ one.0;
        stratum = (ltb-false _ _ strata.0, ltb-false _ _ strata.1);
        same-timescale = (eqb-true _ _ (not-false _ scales.0), unless-other r.interleaved previous timescale scales.1);
        known = (eqb-false _ _ t2.0, eqb-false _ _ t2.1, eqb-false _ _ t3.1, eqb-false _ _ t4.1);
        apart = four.1;
      }

  all : HalfEraFirst r timescale previous t → judged r timescale previous t ≡ 5
  all h =
      rw (
        ne_eqb _ _ h.synchronized,
        le-ltb _ _ h.stratum.0,
        le-ltb _ _ h.stratum.1,
        eq-eqb _ _ h.same-timescale.0,
        no_other r.interleaved previous timescale h.same-timescale.1,
        ne_eqb _ _ h.known.0,
        ne_eqb _ _ h.known.1,
        ne_eqb _ _ h.known.2,
        ne_eqb _ _ h.known.3,
      )
      h.apart

pub half-era-judged : HalfEraJudged
half-era-judged r timescale previous t = (only r timescale previous t, all r timescale previous t)

-- no earlier reason applies
none_applies : (b : Bool) (n x : ℕ) → cond b n x ≡ 0 → (n ≡ 0 → ⊥) → x ≡ 0
none_applies true n x e f = absurd (f e)
none_applies false n x e f = e

pub usable-measured : (r : Response) (timescale previous : ℕ) (t : Times) → judged r timescale previous t ≡ 0 → (measurement t.t1 t.t2 t.t3 t.t4).judgement ≡ 0
usable-measured r timescale previous t e =
    let one = none_applies (eqb r.leap 3) _ _ e (λ q. omega arith) in
    let two = none_applies (ltb r.stratum 1 || ltb 15 r.stratum) _ _ one (λ q. omega arith) in
    let three = none_applies (not (eqb r.timescale timescale) || (r.interleaved && not (eqb previous timescale))) _ _ two (λ q. omega arith) in
    none_applies (eqb t.t1 0 || eqb t.t2 0 || eqb t.t3 0 || eqb t.t4 0) _ _ three (λ q. omega arith)
