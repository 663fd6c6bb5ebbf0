-- `unused_from` meets its contract: the records left to see decide. Assumes nothing.
use mathlib.Core.Path.{◌≡◌}
use Rattle.store_rules.specs.Row.{all_unused, records_of}
use Rattle.store_rules.proofs.Walks.{rest}
use Rattle.store_check.proofs.unused_from.Given as goal

abbrev pub invariant-loop-record : goal.invariant-loop-record
invariant-loop-record l = (l.record-iterator.size ≡ 16) × (all_unused (rest l.store l.from) ≡ all_unused (records_of l.record-iterator.rest.now))
