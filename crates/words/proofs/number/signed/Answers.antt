-- `signed` meets its contract: the first octet tells the sign. Assumes nothing.
use Rattle.std.proofs.Common.{◌∙◌, arith}
use Rattle.words.proofs.Numerals.{signed-plain, signed-minus}
use Rattle.words.proofs.number.signed.Goals as goal

pub returns-in_default : goal.returns-in_default
returns-in_default c =
    let a = c.args in
    c.unsigned.ensures ∙ signed-plain a.most a.word.now c.in_default.ensures.cases

pub returns-in-Ok : goal.returns-in-Ok
returns-in-Ok c =
    let a = c.args in
    let h = c.in-Some.ensures.cases in
    signed-minus a.most a.word.now _ _ _ h.0 h.1 c.in-Ok.ensures (omega arith) (omega arith) c.wrapping_neg.ensures

pub returns-in-Err : goal.returns-in-Err
returns-in-Err c =
    let a = c.args in
    let h = c.in-Some.ensures.cases in
    signed-minus a.most a.word.now _ _ _ h.0 h.1 c.in-Err.ensures (omega arith) (omega arith) c.wrapping_neg-in-Err.ensures
