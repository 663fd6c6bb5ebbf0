-- A record that is passed has another cookie.
use mathlib.Core.Path.{◌≡◌, sym, ap, ◌∙◌}
use Prim.Native.Nat.{◌+◌}
use native.Mathlib.Omega.{arith}
use lib.ListN.{length, length-append}
use Rattle.octets.specs.Number.{num}
use Rattle.octets.proofs.Numbers.{got}
use Rattle.store_rules.proofs.Walks.{place_is, place_here, place_next, place_end}
use Rattle.store_row.proofs.find.Goals as goal

pub loop-record-init : goal.loop-record-init
loop-record-init c =
    let s = c.args.store.now in
    let i = c.into_iter-record-iterator.ensures.into_iter_gives in
    let k = c.chunks_exact-record-items.ensures in
    let e : c.into_iter-record-iterator.result.rest.now ≡ s = rw i k.rest in
    (rw i k.size, rw e (omega arith), place_is s c.args.cookie.0 ∙ rw e (omega arith))

pub loop-record-preserved : goal.loop-record-preserved
loop-record-preserved c =
    let i = c.loop-record.invariant in
    let k = c.in-Some.ensures.steps.1 in
    let x = c.in-Some.record.now in
    let y = c.next.new.self.rest.now in
    let g = got x 0 8 _ (omega (arith, k.1, i.0)) c.get.ensures in
    let n = place_next c.args.cookie.0 _ x y k.0 (k.1 ∙ i.0) (λ e. c.if-get-cookie.false (g ∙ e)) in
    let l : length c.loop-record.record-iterator.rest.now ≡ length x + length y = ap length k.0 ∙ length-append x y in (
      c.in-Some.ensures.steps.0 ∙ i.0,
      omega (arith, i.1, l, k.1, i.0),
      i.2 ∙ omega (arith, n),
    )

pub returns-then-get-cookie : goal.returns-then-get-cookie
returns-then-get-cookie c =
    let i = c.loop-record.invariant in
    let k = c.in-Some.ensures.steps.1 in
    let x = c.in-Some.record.now in
    let e : num x 0 8 ≡ c.args.cookie.0 = sym (got x 0 8 _ (omega (arith, k.1, i.0)) c.get.ensures) ∙ c.if-get-cookie.true in
    let n = place_here c.args.cookie.0 _ x _ k.0 (k.1 ∙ i.0) e in
    sym (i.2 ∙ omega (arith, n))

pub returns-in-None : goal.returns-in-None
returns-in-None c =
    let i = c.loop-record.invariant in
    let n = place_end c.args.cookie.0 c.loop-record.record-iterator.rest.now (omega (arith, c.in-None.ensures.steps.1.0, i.0)) in
    sym (i.2 ∙ omega (arith, n))
