-- Refusals of these calls, N-27 and N-28: of any call with any arguments, on any octets of any size (D-1).
use Rattle.std.specs.Prelude.{◌≡◌, true, List, [], ◌∷◌, ℕ}
use Rattle.octets.specs.Among.{among}
use Rattle.single_rules.specs.Single.{Call, header_read, header_write, sound, filter_add, filter_union, filter_weight, lent, Answer, plain_answer, step}

-- the refusals that concern a call by N-1 to N-24 and W205-4, in the order of N-26
abbrev pub refusals_of : Call → List ℕ
refusals_of (header_read edition datagram wanted) = 6 ∷ 1 ∷ 2 ∷ 3 ∷ []
refusals_of (header_write edition fields out) = 6 ∷ 11 ∷ []
refusals_of (sound datagram wanted) = 1 ∷ 2 ∷ 3 ∷ 4 ∷ 5 ∷ 13 ∷ []
refusals_of (filter_add filter id) = 6 ∷ []
refusals_of (filter_union into other) = 6 ∷ []
refusals_of (filter_weight filter) = 6 ∷ []

pub record RefusedCall (c : Call) (w : Answer) : Type 0 where
  -- nothing but the number is answered, N-27, and the octets lent are as they were, N-28
  pub unchanged : w ≡ plain_answer w.refusal (lent c)
  -- the number is one of those that concern the call
  pub number : among w.refusal (refusals_of c) ≡ true

abbrev pub Refusals : Type 0
Refusals = (c : Call) → ((step c).refusal ≡ 0 → ⊥) → RefusedCall c (step c)
