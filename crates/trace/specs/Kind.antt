-- The kinds of records, W208-3, and a record or its fault, as the code has them.
use Rattle.std.specs.Prelude.{List, ℕ, Result, Ok, Err, cond, eqb}
use Rattle.trace_rules.specs.Record.{wrong_mode, action_of}
use Rattle.trace_rules.specs.declared.Action.{Action}
use Rattle.trace_rules.specs.declared.Record.{Record}
use Rattle.trace_rules.specs.declared.Fault.{Fault}
use Rattle.trace_rules.specs.declared.Fault.TheVariants as fault
use Rattle.trace_rules.specs.declared.Found.{Found}
use Rattle.trace_rules.specs.declared.Found.TheVariants.{Call, Wrong}
use Rattle.trace.specs.declared.kind.Kind.{Kind}
use Rattle.trace.specs.declared.kind.Kind.TheVariants.{Open, Poll, Sent, Receive, Close}

abbrev pub kind_number : Kind → ℕ
kind_number Open = 1
kind_number Poll = 2
kind_number Sent = 3
kind_number Receive = 4
kind_number Close = 5

abbrev pub named_kind : ℕ → Result Kind Fault
named_kind n =
    cond (eqb n 1) (Ok Open)
    (cond (eqb n 2) (Ok Poll)
    (cond (eqb n 3) (Ok Sent)
    (cond (eqb n 4) (Ok Receive)
    (cond (eqb n 5) (Ok Close)
    (Err fault.Kind)))))

-- W208-4: the call of a kind, or the fault of a poll's mode
abbrev pub action_or_fault : (kind : ℕ) → List ℕ → Result Action Fault
action_or_fault kind s = cond (wrong_mode kind s) (Err fault.Kind) (Ok (action_of kind s))

-- what is found where octets are left
abbrev pub found_of : Result Record Fault → Found
found_of (Ok r) = Call r
found_of (Err f) = Wrong f
