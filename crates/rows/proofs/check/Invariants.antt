-- `check` meets its contract: what is wrong from i on is what is wrong at all. Assumes nothing.
use Rattle.std.proofs.Common.{◌≡◌, ℕ, ◌+◌, ◌-◌, length}
use Rattle.rows.specs.Rows.{fault_from, fault_of}
use Rattle.rows.proofs.check.Given as goal

abbrev pub invariant-loop-i : goal.invariant-loop-i
invariant-loop-i l =
    (call : ℕ) → fault_from (length l.signature + 1 - l.i) l.i call l.line l.signature ≡ fault_of call l.line l.signature
