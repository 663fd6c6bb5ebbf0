-- `digit_in` meets its contract: the library's digits are these. Assumes nothing.
use Rattle.words.proofs.Numerals.{digit_read_in}
use Rattle.words.proofs.number.digit_in.Goals as goal

pub returns : goal.returns
returns c =
    let h = rw (c.radix.ensures, c.from.ensures) at c.to_digit.ensures.value in
    digit_read_in _ c.args.base _ h
