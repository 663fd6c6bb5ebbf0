-- The whole trace, computed. Assumes nothing.
use mathlib.Core.Path.{refl}
use Rattle.octets.specs.Number.{num}
use Rattle.trace_rules.specs.Record.{found_in}
use Rattle.trace_rules.specs.Trace.{list_for, listing}
use Rattle.trace_rules.specs.Worked.{worked_trace, WorkedTrace}

pub worked-trace : WorkedTrace
unfolding listing list_for found_in num worked_trace
worked-trace lend = refl
