use mathlib.Core.Path.{refl}
use native.Mathlib.Omega.{arith}
use Rattle.octets.proofs.Parts.{room}
use Rattle.octet_words.proofs.Storing.{turn}
use Rattle.octet_words.proofs.put.Goals as goal

pub loop-i-preserved : goal.loop-i-preserved
loop-i-preserved c =
    let a = c.args in
    let l = c.loop-i in
    let h = room _ _ c.has_octets.ensures c.if-has_octets.true in
    turn a.out.now l.out _ a.words.now a.at l.i _ (omega arith) (omega arith) l.invariant refl c.store.ensures
