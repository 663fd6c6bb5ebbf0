-- `find` meets its contract: the records up to `at` are passed, and what is left to look at tells the place. Assumes nothing.
use mathlib.Core.Path.{◌≡◌}
use Prim.Native.Nat.{◌+◌, ◌*◌}
use lib.ListN.{length}
use Rattle.store_rules.specs.Row.{records_of}
use Rattle.store_rules.specs.Place.{index_of, place_of}
use Rattle.store_row.proofs.find.Given as goal

abbrev pub invariant-loop-record : goal.invariant-loop-record
invariant-loop-record l =
    (l.record-iterator.size ≡ 16) × (l.at + length l.record-iterator.rest.now ≡ length l.store) × (place_of l.store l.cookie.0 ≡ l.at + 16 * index_of l.cookie.0 (records_of l.record-iterator.rest.now))
