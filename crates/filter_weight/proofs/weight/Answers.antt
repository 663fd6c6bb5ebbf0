use mathlib.Core.Path.{sym, ap, ◌∙◌}
use Prim.Native.Nat.{◌*◌, ◌≤◌}
use native.Mathlib.Omega.{arith}
use lib.Count.{ones, ones-le}
use lib.Seq.{take_all}
use Rattle.filter_words.specs.Words.{words_of, ones_of}
use Rattle.filter_words.proofs.Words.{sixty-four-words, word_read}
use Rattle.filter_rules.proofs.Weights.{count-le}
use Rattle.filter_words.proofs.Counting.{ones_none, ones-next, ones_below, weight-words}
use borrow.Author.Rules.{rules}
use Rattle.filter_weight.proofs.weight.Goals as goal
use Rattle.filter_weight.proofs.weight.Goals.{After-word}

pub loop-i-init : goal.loop-i-init
loop-i-init c = sym ones_none

-- a word has at most 64 ones
word_ones : (c : After-word) → ones c.word.result ≤ 64
word_ones c = ones-le 64 c.word.result c.word.type_inv

pub overflow_cast-n : goal.overflow_cast-n
overflow_cast-n c = omega (arith, word_ones c)

-- the words before it have no more than their positions
pub overflow_add-n : goal.overflow_add-n
overflow_add-n c =
    let f = c.args.filter.now in
    let below = ones_below f (λ j. (c.type_inv.filter j).fits) c.loop-i.i (search rules) in
    omega (arith, word_ones c, below, count-le f (64 * c.loop-i.i))

pub loop-i-preserved : goal.loop-i-preserved
loop-i-preserved c =
    let f = c.args.filter.now in
    let i = c.loop-i.i in
    let read = c.word.ensures ∙ word_read f i c.requires (search rules) in
    omega (arith, ap ones read, ones-next (words_of f) i (omega (arith, sixty-four-words f)))

pub returns : goal.returns
returns c =
    let f = c.args.filter.now in
    let all = take_all c.loop-i.i (words_of f) (omega (arith, sixty-four-words f)) in
    c.loop-i.invariant ∙ ap ones_of all ∙ sym (weight-words f (λ j. (c.type_inv.filter j).fits))
