-- `unsigned` meets its contract: the first two octets tell the base. Assumes nothing.
use Rattle.std.proofs.Common.{◌∙◌, ap}
use Rattle.words.specs.Numeral.{digits_of}
use Rattle.words.proofs.Numerals.{unsigned-hexadecimal, unsigned-decimal}
use Rattle.words.proofs.number.unsigned.Goals as goal

pub returns-in-Some : goal.returns-in-Some
returns-in-Some c =
    let a = c.args in
    let h = c.in-Some.ensures.cases in
    c.digits.ensures ∙ ap (digits_of 16 a.most) h.1 ∙ unsigned-hexadecimal a.most a.word.now h.0

pub returns-in-None : goal.returns-in-None
returns-in-None c =
    let a = c.args in
    c.digits-in-None.ensures ∙ unsigned-decimal a.most a.word.now c.in-None.ensures.cases
