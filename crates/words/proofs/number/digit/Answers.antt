-- `digit` meets its contract: the library's digits are these. Assumes nothing.
use Rattle.words.specs.declared.number.Base.TheVariants.{Hexadecimal}
use Rattle.words.proofs.Numerals.{digit_read_in}
use Rattle.words.proofs.number.digit.Goals as goal

pub returns : goal.returns
returns c = digit_read_in _ Hexadecimal _ (rw c.from.ensures at c.to_digit.ensures.value)
