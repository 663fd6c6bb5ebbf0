-- The once-only rule, R-15, over every list of clears, reports and answers on a cleared store.
use Rattle.std.specs.Prelude.{◌≡◌, Bool, true, false, cond, ◌&&◌, List, [], ◌∷◌, ℕ, ◌≤◌, eqb, length}
use Rattle.header.specs.Edition.{interleaved_flag}
use Rattle.header.specs.Header.{header_of}
use Rattle.header.specs.declared.edition.Edition.{Edition}
use Rattle.store_rules.specs.Row.{Record, held, time_of, without, size_of, row_of, wrong_size, wrong_store}
use Rattle.responder_rules.specs.Answer.{Given, asking}
use Rattle.responder_rules.specs.Call.{Call, clear, report, answer, Responder, step_store}
use Rattle.responder_rules.specs.Claim.{InRange, Typed}

-- ---- lists of calls

abbrev pub AllTyped : List Call → Type 0
AllTyped [] = Unit {0}
AllTyped (c ∷ cs) = Typed c × AllTyped cs

-- the store after calls
unfoldable pub store_after_calls : Responder → List Call → List ℕ → List ℕ
store_after_calls step [] s = s
store_after_calls step (c ∷ cs) s = store_after_calls step cs (step c s).store

-- the store once it is cleared
abbrev pub cleared_by : Responder → List ℕ → List ℕ
cleared_by step s = (step clear s).store

-- ---- what an observer sees, who knows nothing of the store

-- the request's server cookie
abbrev pub asked_cookie : Given → ℕ
asked_cookie g = (asking g).server_cookie.0

-- an interleaved answer: it is not refused, and the flag is set in the header that stands in the output, read in the edition that the call
-- names (W204-4)
abbrev pub interleaved : Edition → (refusal : ℕ) (out : List ℕ) → Bool
interleaved e refusal out = eqb refusal 0 && interleaved_flag e (header_of e out).flags

pub data Observed : Type 0 where
  -- a clear
  clears : Observed
  -- a report that was accepted
  reports : (cookie time : ℕ) → Observed
  -- an interleaved answer: the server cookie of its request, and the transmit timestamp of the header that was written
  sends : (cookie time : ℕ) → Observed
  -- any other call
  other : Observed

-- a call by its arguments, its refusal number and its output afterwards
abbrev pub observed_of : Call → (refusal : ℕ) (out : List ℕ) → Observed
observed_of clear refusal out = cond (eqb refusal 0) clears other
observed_of (report c t) refusal out = cond (eqb refusal 0) (reports c t) other
observed_of (answer g lent) refusal out = cond (interleaved g.edition refusal out) (sends (asked_cookie g) (header_of g.edition out).transmit) other

unfoldable pub observations : Responder → List Call → List ℕ → List Observed
observations step [] s = []
observations step (c ∷ cs) s = observed_of c (step c s).refusal (step c s).out ∷ observations step cs (step c s).store

-- `unsent` has the times that were reported and not sent since, for each cookie the last one. A sent time is the one that `unsent` has
-- for the cookie of its request, and leaves it
unfoldable pub each_sent_once : (unsent : List Record) → List Observed → Bool
each_sent_once unsent [] = true
each_sent_once unsent (clears ∷ es) = each_sent_once [] es
each_sent_once unsent (reports c t ∷ es) = each_sent_once (record { cookie = c; time = t } ∷ without c unsent) es
each_sent_once unsent (sends c t ∷ es) = held c unsent && eqb (time_of c unsent) t && each_sent_once (without c unsent) es
each_sent_once unsent (other ∷ es) = each_sent_once unsent es

-- ---- the claim

-- a store of n records, to which neither N-10 nor N-14 applies
pub record Right (n : ℕ) (s : List ℕ) : Type 0 where
  pub right : wrong_store s ≡ false
  pub size : size_of s ≡ n
  pub within : length (row_of s) ≤ n
  -- no cookie stands twice: when its record leaves, it is not in the row
  pub distinct : (c : ℕ) → held c (without c (row_of s)) ≡ false

pub record OnceClaim (step : Responder) (s : List ℕ) (cs : List Call) : Type 0 where
  -- R-15, against E-5
  pub sent-once : each_sent_once [] (observations step cs (cleared_by step s)) ≡ true
  -- the calls leave a right store, of the size that it had
  pub store-right : Right (size_of s) (store_after_calls step cs (cleared_by step s))
  -- R-10: after an interleaved answer the cookie of its request is not in the store
  pub record-left : (g : Given) (out : List ℕ) → InRange g [] → let w = step (answer g out) (store_after_calls step cs (cleared_by step s)) in
      interleaved g.edition w.refusal w.out ≡ true → held (asked_cookie g) (row_of w.store) ≡ false

-- for any octets of the right size and every list of calls
abbrev pub OnceFor : Responder → Type 0
OnceFor step = (s : List ℕ) → wrong_size s ≡ false → (cs : List Call) → AllTyped cs → OnceClaim step s cs

abbrev pub Once : Type 0
Once = OnceFor step_store
