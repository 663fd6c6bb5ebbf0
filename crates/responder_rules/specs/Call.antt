-- The responder's calls, R-1 to R-20, and all that each returns and leaves.
use Rattle.std.specs.Prelude.{List, [], ℕ}
use Rattle.store_rules.specs.Row.{cleared, reporting}
use Rattle.responder_rules.specs.Answer.{Given, Outcome, answer_of}

-- `out` is an answer's output as lent
pub data Call : Type 0 where
  clear : Call
  report : (cookie time : ℕ) → Call
  answer : (given : Given) (out : List ℕ) → Call

-- the output that a call is lent; a clear and a report are lent none
abbrev pub lent : Call → List ℕ
lent clear = []
lent (report c t) = []
lent (answer g out) = out

-- a responder: all that it returns to a call on a store's octets, and leaves
abbrev pub Responder : Type 0
Responder = Call → List ℕ → Outcome

-- ours
abbrev pub step_store : Responder
step_store clear s = record { refusal = (cleared s).0; size = 0; out = []; store = (cleared s).1 }
step_store (report c t) s = record { refusal = (reporting s c t).0; size = 0; out = []; store = (reporting s c t).1 }
step_store (answer g out) s = answer_of g s out
