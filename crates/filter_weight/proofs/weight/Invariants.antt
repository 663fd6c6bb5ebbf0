-- `weight`: the ones of the words below i are counted; of all words they are the weight.
use Rattle.std.proofs.Common.{◌≡◌, take}
use Rattle.filter_words.specs.Words.{words_of, ones_of}
use Rattle.filter_weight.proofs.weight.Given as goal

abbrev pub invariant-loop-i : goal.invariant-loop-i
invariant-loop-i l = l.n ≡ ones_of (take l.i (words_of l.filter))
