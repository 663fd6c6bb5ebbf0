-- Refusals of the client, N-27 and N-28: of any call, whatever its arguments, on any numbers lent as a table, of any size (D-1).
use Rattle.std.specs.Prelude.{◌≡◌, true, List, [], ◌∷◌, ℕ}
use Rattle.octets.specs.Among.{among}
use Rattle.client_rules.specs.Call.{Call, clear_table, open_one, close_one, poll, sent, receive, loop_verdict, publish, Answer, plain_answer}
use Rattle.client_rules.specs.Numbers.{step_numbers}
use Rattle.client_rules.specs.Claim.{Client}

-- the output that a call is lent; a call without one writes none
abbrev pub lent : Call → List ℕ
lent clear_table = []
lent (open_one a edition timescale c) = []
lent (close_one a) = []
lent (poll a cookie exponent interleaved out) = out
lent (sent a t1) = []
lent (receive a datagram t4) = []
lent (loop_verdict a id) = []
lent (publish selected id out) = out

-- the refusals that concern a call by N-1 to N-24 and W205-4, in the order of N-26
abbrev pub refusals_of : Call → List ℕ
refusals_of clear_table = 6 ∷ []
refusals_of (open_one a edition timescale c) = 6 ∷ 7 ∷ []
refusals_of (close_one a) = 6 ∷ 7 ∷ []
refusals_of (poll a cookie exponent interleaved out) = 6 ∷ 7 ∷ 8 ∷ 11 ∷ []
refusals_of (sent a t1) = 6 ∷ 7 ∷ []
refusals_of (receive a datagram t4) = 6 ∷ 7 ∷ 1 ∷ 2 ∷ 3 ∷ 4 ∷ 5 ∷ 13 ∷ 9 ∷ 10 ∷ []
refusals_of (loop_verdict a id) = 6 ∷ 7 ∷ []
refusals_of (publish selected id out) = 6 ∷ 7 ∷ 11 ∷ []

-- what a refused call answers and leaves
pub record RefusedCall (c : Call) (t : List ℕ) (w : Answer × List ℕ) : Type 0 where
  pub table_kept : w.1 ≡ t
  -- the output is as lent, and every number of the answer but the refusal is 0, N-27
  pub zeros : w.0 ≡ plain_answer w.0.refusal (lent c)
  pub number : among w.0.refusal (refusals_of c) ≡ true

abbrev pub RefusalsFor : Client → Type 0
RefusalsFor step = (c : Call) (t : List ℕ) → ((step c t).0.refusal ≡ 0 → ⊥) → RefusedCall c t (step c t)

abbrev pub Refusals : Type 0
Refusals = RefusalsFor step_numbers
