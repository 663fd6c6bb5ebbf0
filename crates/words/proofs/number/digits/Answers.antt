use Rattle.std.proofs.Common.{length, sym, ◌∙◌, ◌<◌, refl, ap, arith, eqb-true, lt-ltb, le-ltb}
use borrow.Author.Tests.{eqb-false}
use Rattle.words.specs.Numeral.{digits_of}
use Rattle.words.specs.Wrong.{radix_of, value_of}
use Rattle.words.proofs.Numerals.{radix-positive, below_some, below_none, all_pass, all-fail, all_end, so_far_next, so_far_end}
use Rattle.words.proofs.number.digits.Goals as goal

pub returns-then-is_empty : goal.returns-then-is_empty
unfolding digits_of
returns-then-is_empty c =
    let h = eqb-true (length c.args.text.now) 0 (sym c.is_empty.ensures ∙ c.if-is_empty.true) in
    rw (le-ltb 0 (length c.args.text.now) (omega arith))

pub loop-x-init : goal.loop-x-init
loop-x-init c = ((omega arith, refl), refl)

pub returns-in_default : goal.returns-in_default
unfolding digits_of
returns-in_default c =
    let a = c.args in
    let h = below_none _ _ (sym c.in_default.is ∙ c.digit_in.ensures) in
    let l : 0 < length a.text.now = omega arith in
    rw (lt-ltb 0 (length a.text.now) l, ← (all-fail (radix_of a.base) a.text.now c.loop-x.x-index c.loop-x-test.true h ∙ c.loop-x.invariant.1))

pub loop-x-preserved : goal.loop-x-preserved
loop-x-preserved c =
    let a = c.args in
    let h = below_some _ _ c.in-Some.d (sym c.in-Some.is ∙ c.digit_in.ensures) in (
      rw c.with_digit-value.ensures (so_far_next _ _ _ c.loop-x.x-index _ _ _ (radix-positive a.base) c.loop-x-test.true h.1 c.loop-x.invariant.0),
      all_pass (radix_of a.base) a.text.now c.loop-x.x-index c.loop-x-test.true h.0 ∙ c.loop-x.invariant.1,
    )

pub returns : goal.returns
unfolding digits_of
returns c =
    let a = c.args in
    let h = eqb-false (length a.text.now) 0 (sym c.is_empty.ensures ∙ c.if-is_empty.false) in
    let l : 0 < length a.text.now = omega arith in
    rw (lt-ltb 0 (length a.text.now) l, ← (all_end (radix_of a.base) a.text.now c.loop-x.x-index c.loop-x-test.false ∙ c.loop-x.invariant.1))
    (ap value_of c.ok_or.ensures.value ∙ so_far_end _ _ a.text.now c.loop-x.x-index _ _ c.loop-x-test.false c.loop-x.invariant.0)
