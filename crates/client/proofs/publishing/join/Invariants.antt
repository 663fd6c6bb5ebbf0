-- `join` meets its contract: the filters from association a on are left to unite. Assumes nothing.
use mathlib.Core.Path.{◌≡◌}
use Prim.Native.Nat.{◌-◌}
use lib.ListN.{length}
use Rattle.word_rules.specs.Words.{octets_of}
use Rattle.filter_rules.specs.Filter.{fresh_filter}
use Rattle.filter_rules.specs.Publishing.{selected_from, selected_associations, joined}
use Rattle.client_rules.specs.Numbers.{seen_numbers}
use Rattle.client_rules.specs.Select.{filters_of}
use Rattle.client.proofs.publishing.join.Given as goal

abbrev pub invariant-loop-a : goal.invariant-loop-a
invariant-loop-a l = (length l.joined ≡ 64) × (joined (filters_of (seen_numbers l.table)) (octets_of l.joined) (selected_from l.selected (16 - l.a) l.a) ≡ joined (filters_of (seen_numbers l.table)) fresh_filter (selected_associations l.selected))
