-- `write` meets its contract. Assumes nothing.
use Rattle.std.proofs.Common.{◌∙◌, sym}
use Rattle.words.proofs.Writing.{write-minus, write-all}
use Rattle.words.proofs.octet_word.write.Goals as goal

pub returns-then-same : goal.returns-then-same
returns-then-same c =
    let a = c.args in
    write-minus a.word.now a.buffer.now (sym c.same.ensures ∙ c.if-same.true)

pub returns : goal.returns
returns c =
    let a = c.args in
    c.write_runs.ensures ∙ write-all a.word.now a.buffer.now (sym c.same.ensures ∙ c.if-same.false)
