-- `copy_words`: each turn pastes the octets of a word more.
use mathlib.Core.Path.{◌≡◌, ap, ◌∙◌}
use mathlib.Core.List.{List}
use Prim.Native.Nat.{ℕ, ◌*◌}
use native.Mathlib.Omega.{arith}
use lib.ListN.{drop}
use lib.Seq.{paste, paste-zero}
use Rattle.word_rules.specs.Words.{words_from, octets_of}
use Rattle.word_rules.proofs.Conversion.{length-words}
use Rattle.word_rules.proofs.Taking.{word-from, octets-read, paste-taken}
use Rattle.octet_words.proofs.Storing.{turn}
use Rattle.octet_words.proofs.copy_words.Goals as goal

pub loop-i-init : goal.loop-i-init
loop-i-init c = let a = c.args in paste-zero a.out.now a.to (octets_of (words_from (drop a.from a.source.now) 0 a.whole))

pub loop-i-preserved : goal.loop-i-preserved
loop-i-preserved c =
    let a = c.args in
    let l = c.loop-i in
    let ws = words_from (drop a.from a.source.now) 0 a.whole in
    let size = length-words (drop a.from a.source.now) 0 a.whole in
    turn a.out.now l.out _ ws a.to l.i _ (omega (arith, size)) (omega (arith, size)) l.invariant
    (c.load.ensures ∙ word-from a.source.now a.from a.whole l.i (omega arith))
    c.store.ensures

pub returns : goal.returns
returns c =
    let l = c.loop-i in
    let a = c.args in
    let f = drop a.from a.source.now in
    let e : l.i ≡ a.whole = omega arith in
    l.invariant ∙ ap (λ (i : ℕ). paste a.out.now a.to (octets_of (words_from f 0 a.whole)) (8 * i)) e
    ∙ ap (λ (xs : List ℕ). paste a.out.now a.to xs (8 * a.whole))
    (octets-read a.source.now (λ j. (c.type_inv.source j).fits) a.from a.whole (omega arith))
    ∙ paste-taken a.out.now f a.to (8 * a.whole)
