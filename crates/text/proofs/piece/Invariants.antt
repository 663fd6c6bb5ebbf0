-- `piece` meets its contract: the piece is the one of number less k of what stands from `at` on. Assumes nothing.
use Rattle.std.proofs.Common.{◌≡◌, ◌-◌, drop}
use Rattle.text.specs.Place.{piece_from, piece_of}
use Rattle.text.proofs.piece.Given as goal

abbrev pub invariant-loop-k : goal.invariant-loop-k
invariant-loop-k l = piece_from l.separator (l.number - l.k) (drop l.at l.text) ≡ piece_of l.text l.number l.separator
