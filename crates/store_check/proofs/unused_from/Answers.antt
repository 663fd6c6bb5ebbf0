use mathlib.Core.Path.{◌≡◌, sym, ap, ◌∙◌}
use mathlib.Core.Bool.{true, false}
use native.Mathlib.Omega.{arith}
use lib.ListN.{drop}
use Rattle.octets.proofs.Numbers.{got}
use Rattle.octets.proofs.Parts.{take_rest}
use Rattle.store_rules.specs.Row.{all_unused, records_of}
use Rattle.store_rules.proofs.Walks.{of_rest, unused_chunk, unused_chunk_end}
use Rattle.store_check.proofs.unused_from.Goals as goal

pub loop-record-init : goal.loop-record-init
loop-record-init c =
    let s = c.args.store.now in
    let i = c.into_iter-record-iterator.ensures.into_iter_gives in
    let k = c.chunks_exact-record-items.ensures in
    let e : c.into_iter-record-iterator.result.rest.now ≡ drop c.args.from s = rw i (k.rest ∙ take_rest s c.args.from) in
    (rw i k.size, ap all_unused (sym (of_rest s c.args.from) ∙ ap records_of (sym e)))

pub returns-then-get : goal.returns-then-get
returns-then-get c =
    let i = c.loop-record.invariant in
    let k = c.in-Some.ensures.steps.1 in
    let x = c.in-Some.record.now in
    let a = got x 0 8 _ (omega (arith, k.1, i.0)) c.get.ensures in
    let b = got x 8 8 _ (omega (arith, k.1, i.0)) c.get-in-loop-record.ensures in
    sym (i.1 ∙ unused_chunk _ x _ _ _ true k.0 (k.1 ∙ i.0) a b c.if-get.true)

pub loop-record-preserved : goal.loop-record-preserved
loop-record-preserved c =
    let i = c.loop-record.invariant in
    let k = c.in-Some.ensures.steps.1 in
    let x = c.in-Some.record.now in
    let a = got x 0 8 _ (omega (arith, k.1, i.0)) c.get.ensures in
    let b = got x 8 8 _ (omega (arith, k.1, i.0)) c.get-in-loop-record.ensures in
    (c.in-Some.ensures.steps.0 ∙ i.0, i.1 ∙ unused_chunk _ x _ _ _ false k.0 (k.1 ∙ i.0) a b c.if-get.false)

pub returns : goal.returns
returns c =
    let i = c.loop-record.invariant in
    let short = c.in-None.ensures.steps.1.0 in
    sym (i.1 ∙ unused_chunk_end c.loop-record.record-iterator.rest.now (omega (arith, short, i.0)))
