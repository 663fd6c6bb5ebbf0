-- `copy_all`: whole words, then what is left.
use native.Mathlib.Omega.{arith}
use Rattle.octet_words.proofs.Storing.{then-rest}
use Rattle.octet_words.proofs.copy_all.Goals as goal

pub returns : goal.returns
returns c =
    let a = c.args in
    then-rest a.out.now _ _ a.source.now a.to a.from a.n (omega arith) (omega arith) c.copy_words.ensures c.copy.ensures
