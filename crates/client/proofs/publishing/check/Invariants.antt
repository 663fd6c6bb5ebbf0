-- `check` meets its contract: the associations from a on are left to test. Assumes nothing.
use Rattle.client_rules.specs.Numbers.{seen_numbers}
use Rattle.client_rules.specs.Select.{in_range_seen, complete_seen}
use Rattle.client.proofs.Selection.{Left}
use Rattle.client.proofs.publishing.check.Given as goal

abbrev pub invariant-loop-a : goal.invariant-loop-a
invariant-loop-a l = (Left in_range_seen (seen_numbers l.table) l.selected l.in_range l.a) × (Left complete_seen (seen_numbers l.table) l.selected l.complete l.a)
