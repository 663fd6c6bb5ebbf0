use native.Mathlib.Omega.{arith}
use Rattle.octet_words.proofs.Storing.{read}
use Rattle.octet_words.proofs.take_all.Goals as goal

pub returns : goal.returns
returns c =
    let l = c.loop-i in
    let a = c.args in
    read l.words a.source.now _ (omega arith) (λ k h. l.invariant k (omega arith))
