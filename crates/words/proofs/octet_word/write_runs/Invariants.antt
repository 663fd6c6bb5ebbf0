-- `write_runs` meets its contract: what is left to write gives the whole. Assumes nothing.
use Rattle.std.proofs.Common.{◌≡◌, ◌-◌, ◌≤◌, length}
use Rattle.words.specs.OctetWord.{write_from}
use Rattle.words.proofs.octet_word.write_runs.Given as goal

abbrev pub invariant-loop-turn : goal.invariant-loop-turn
invariant-loop-turn l =
    (l.count ≤ 4096) × (write_from (length l.word - l.turn) l.buffer l.count l.text ≡ write_from (length l.word) l.fn.buffer 0 l.word)
