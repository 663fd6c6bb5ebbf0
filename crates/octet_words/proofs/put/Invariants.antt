-- `put`: the octets of the first i words are pasted.
use mathlib.Core.Path.{◌≡◌}
use Prim.Native.Nat.{◌*◌}
use lib.Seq.{paste}
use Rattle.word_rules.specs.Words.{octets_of}
use Rattle.octet_words.proofs.put.Given as goal

abbrev pub invariant-loop-i : goal.invariant-loop-i
invariant-loop-i l = l.out ≡ paste l.initial.out l.at (octets_of l.words) (8 * l.i)
