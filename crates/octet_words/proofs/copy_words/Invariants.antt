-- `copy_words`: the octets of the first i words are pasted.
use mathlib.Core.Path.{◌≡◌}
use Prim.Native.Nat.{◌*◌}
use lib.ListN.{drop}
use lib.Seq.{paste}
use Rattle.word_rules.specs.Words.{words_from, octets_of}
use Rattle.octet_words.proofs.copy_words.Given as goal

abbrev pub invariant-loop-i : goal.invariant-loop-i
invariant-loop-i l = (l.out ≡ paste l.initial.out l.to (octets_of (words_from (drop l.from l.source) 0 l.whole)) (8 * l.i))
