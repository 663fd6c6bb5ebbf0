-- The numbers tell the refusals apart, and none of them is 0, which stands for no refusal (N-27).
use Rattle.std.specs.Prelude.{◌≡◌, ◌<◌}
use Rattle.refusal.specs.declared.Refusal.{Refusal}
use Rattle.refusal.specs.Refusal.{refusal_number}

abbrev pub NumbersDiffer : Type 0
NumbersDiffer = (a b : Refusal) → refusal_number a ≡ refusal_number b → a ≡ b

abbrev pub NumberAboveNone : Type 0
NumberAboveNone = (r : Refusal) → 0 < refusal_number r
