-- Idle responders, and that the claims reject them, D-5: the claim that is named is false of each.
use Rattle.std.specs.Prelude.{◌≡◌, true, false, cond, List, [], ℕ}
use Rattle.store_rules.specs.Row.{wrong_size}
use Rattle.responder_rules.specs.Answer.{Given, answer_of}
use Rattle.responder_rules.specs.Call.{Call, clear, report, answer, lent, Responder, step_store}
use Rattle.responder_rules.specs.Claim.{EveryAnswerFor, EveryReportFor}
use Rattle.responder_rules.specs.Refused.{RefusalsFor}
use Rattle.responder_rules.specs.Once.{AllTyped, cleared_by, interleaved, observations, each_sent_once, OnceFor}

-- ---- refusing

-- ours, but it refuses every request
abbrev pub refuses_requests : Responder
refuses_requests clear s = step_store clear s
refuses_requests (report c t) s = step_store (report c t) s
refuses_requests (answer g out) s = record { refusal = 6; size = 0; out = out; store = s }

-- every responder that refuses every request, and every one that refuses every report, whatever else they do
abbrev pub RefusesRequests : Responder → Type 0
RefusesRequests step = (g : Given) (out s : List ℕ) → (step (answer g out) s).refusal ≡ 0 → ⊥

abbrev pub RefusesReports : Responder → Type 0
RefusesReports step = (c t : ℕ) (s : List ℕ) → (step (report c t) s).refusal ≡ 0 → ⊥

-- ---- doing nothing

-- returns success
abbrev pub does_nothing : Responder
does_nothing c s = record { refusal = 0; size = 0; out = lent c; store = s }

-- every responder whose answers leave the output as lent, and every one whose answers leave the store, whatever they return
abbrev pub WritesNothing : Responder → Type 0
WritesNothing step = (g : Given) (out s : List ℕ) → (step (answer g out) s).out ≡ out

abbrev pub StoresNothing : Responder → Type 0
StoresNothing step = (g : Given) (out s : List ℕ) → (step (answer g out) s).store ≡ s

-- ---- answering every interleaved request from one saved time, E-5

-- ours, but an interleaved answer leaves the store, so that the record stays in the row
abbrev pub answers_from_one : Responder
answers_from_one clear s = step_store clear s
answers_from_one (report c t) s = step_store (report c t) s
answers_from_one (answer g out) s =
    let w = answer_of g s out in
    record { refusal = w.refusal; size = w.size; out = w.out; store = cond (interleaved g.edition w.refusal w.out) s w.store }

-- of the once-only claim what the observer sees, alone
abbrev pub SentOnceFor : Responder → Type 0
SentOnceFor step = (s : List ℕ) → wrong_size s ≡ false → (cs : List Call) → AllTyped cs → each_sent_once [] (observations step cs (cleared_by step s)) ≡ true

-- ---- the claims

pub record IdleRejected : Type 0 where
  -- by the answers' claim
  pub refusing : EveryAnswerFor refuses_requests → ⊥
  pub all-refusing : (step : Responder) → RefusesRequests step → EveryAnswerFor step → ⊥
  pub idling : EveryAnswerFor does_nothing → ⊥
  pub all-writing-nothing : (step : Responder) → WritesNothing step → EveryAnswerFor step → ⊥
  pub all-storing-nothing : (step : Responder) → StoresNothing step → EveryAnswerFor step → ⊥
  -- by the reports' claim
  pub all-refusing-reports : (step : Responder) → RefusesReports step → EveryReportFor step → ⊥
  -- by the once-only claim, of which what the observer sees is enough
  pub answering-from-one : OnceFor answers_from_one → ⊥
  pub sending-twice : SentOnceFor answers_from_one → ⊥

-- the claims that hold of the responder that refuses every request, so that they say too little alone
pub record HoldsOfRefusing : Type 0 where
  pub once : OnceFor refuses_requests
  pub reports : EveryReportFor refuses_requests
  pub refusals : RefusalsFor refuses_requests
