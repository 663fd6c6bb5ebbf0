-- Refusals of the responder, N-27 and N-28: of any call with any arguments, on any octets lent as store and output, of any size (D-1).
use Rattle.std.specs.Prelude.{◌≡◌, true, List, [], ◌∷◌, ℕ}
use Rattle.octets.specs.Among.{among}
use Rattle.responder_rules.specs.Answer.{Outcome}
use Rattle.responder_rules.specs.Call.{Call, clear, report, answer, lent, Responder, step_store}

-- the refusals that concern a call by N-1 to N-24 and W205-4, in the order of N-26
abbrev pub refusals_of : Call → List ℕ
refusals_of clear = 6 ∷ []
refusals_of (report c t) = 6 ∷ 12 ∷ []
refusals_of (answer g out) = 6 ∷ 1 ∷ 2 ∷ 3 ∷ 4 ∷ 5 ∷ 13 ∷ 8 ∷ 11 ∷ []

-- what a refused call returns and leaves
pub record RefusedCall (c : Call) (s : List ℕ) (w : Outcome) : Type 0 where
  pub store : w.store ≡ s
  pub out : w.out ≡ lent c
  pub size : w.size ≡ 0
  pub number : among w.refusal (refusals_of c) ≡ true

abbrev pub RefusalsFor : Responder → Type 0
RefusalsFor step = (c : Call) (s : List ℕ) → ((step c s).refusal ≡ 0 → ⊥) → RefusedCall c s (step c s)

abbrev pub Refusals : Type 0
Refusals = RefusalsFor step_store
