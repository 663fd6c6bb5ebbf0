-- `fill` meets its contract: what is left to write gives the whole. Assumes nothing.
use Rattle.std.proofs.Common.{◌≡◌}
use Rattle.words.specs.OctetWord.{fill_from}
use Rattle.words.proofs.octet_word.fill.Given as goal

abbrev pub invariant-loop-left : goal.invariant-loop-left
invariant-loop-left l = fill_from l.buffer l.from l.left l.octet ≡ fill_from l.initial.buffer l.from l.times l.octet
