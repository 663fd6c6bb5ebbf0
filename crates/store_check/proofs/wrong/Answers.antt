use mathlib.Core.Path.{sym, ap, ◌∙◌}
use mathlib.Core.Bool.{true, false, not}
use Prim.Native.Nat.{◌+◌}
use native.Mathlib.Omega.{arith}
use borrow.Author.Tests.{eqb-true, eqb-false}
use Rattle.store_rules.proofs.Walks.{sound-zero, sound-next, sound-end, wrong-by-size, wrong-by-records}
use Rattle.store_check.proofs.wrong.Goals as goal

pub returns-then-wrong_size : goal.returns-then-wrong_size
returns-then-wrong_size c = sym (wrong-by-size _ (sym c.wrong_size.ensures ∙ c.if-wrong_size.true))

pub returns-then-no_cookie : goal.returns-then-no_cookie
returns-then-no_cookie c =
    let l = c.loop-at in
    let s = c.args.store.now in
    let q = wrong-by-records s (sym c.wrong_size.ensures ∙ c.if-wrong_size.false) in
    let e = sound-zero s l.at (omega arith) (eqb-true _ _ (sym c.no_cookie.ensures ∙ c.if-no_cookie.true)) in
    ap not (c.unused_from.ensures ∙ sym (l.invariant.2 ∙ e)) ∙ sym q

pub returns-then-held_later : goal.returns-then-held_later
returns-then-held_later c =
    let l = c.loop-at in
    let s = c.args.store.now in
    let q = wrong-by-records s (sym c.wrong_size.ensures ∙ c.if-wrong_size.false) in
    let z = eqb-false _ _ (sym c.no_cookie.ensures ∙ c.if-no_cookie.false) in
    let e = sound-next s l.at true (omega arith) z (sym c.if-held_later.true ∙ c.held_later.ensures) in
    sym (q ∙ ap not (l.invariant.2 ∙ e))

pub loop-at-preserved : goal.loop-at-preserved
loop-at-preserved c =
    let l = c.loop-at in
    let s = c.args.store.now in
    let z = eqb-false _ _ (sym c.no_cookie.ensures ∙ c.if-no_cookie.false) in
    let e = sound-next s l.at false (omega arith) z (sym c.if-held_later.false ∙ c.held_later.ensures) in
    (omega arith, omega arith, l.invariant.2 ∙ e)

pub returns-else-wrong_size : goal.returns-else-wrong_size
returns-else-wrong_size c =
    let l = c.loop-at in
    let s = c.args.store.now in
    let q = wrong-by-records s (sym c.wrong_size.ensures ∙ c.if-wrong_size.false) in
    sym (q ∙ ap not (l.invariant.2 ∙ sound-end s l.at (omega arith)))

-- the last record
pub returns-else-held_later : goal.returns-else-held_later
returns-else-held_later c =
    let l = c.loop-at in
    let s = c.args.store.now in
    let q = wrong-by-records s (sym c.wrong_size.ensures ∙ c.if-wrong_size.false) in
    let z = eqb-false _ _ (sym c.no_cookie.ensures ∙ c.if-no_cookie.false) in
    let e = sound-next s l.at false (omega arith) z (sym c.if-held_later.false ∙ c.held_later.ensures) in
    sym (q ∙ ap not (l.invariant.2 ∙ e ∙ sound-end s (l.at + 16) (omega arith)))
