-- `digits` meets its contract: from the digit on what is read is still that of the whole text. Assumes nothing.
use Rattle.std.proofs.Common.{◌≡◌, drop}
use Rattle.words.specs.Numeral.{all_digits, number_of}
use Rattle.words.specs.Wrong.{radix_of}
use Rattle.words.proofs.Numerals.{SoFar}
use Rattle.words.proofs.number.digits.Given as goal

abbrev pub invariant-loop-x : goal.invariant-loop-x
invariant-loop-x l =
    SoFar (radix_of l.base) l.most (drop l.x-index l.text) (number_of (radix_of l.base) 0 l.text) l.value
    × (all_digits (radix_of l.base) (drop l.x-index l.text) ≡ all_digits (radix_of l.base) l.text)
