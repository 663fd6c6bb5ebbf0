-- The numbers of the refusals tell them apart, and none is 0. Assumes nothing.
use Rattle.std.proofs.Common.{◌≡◌, refl, sym, ap, ◌∙◌, ℕ, List, [], ◌∷◌, get_or, lit<}
use Rattle.refusal.specs.declared.Refusal.{Refusal}
use Rattle.refusal.specs.declared.Refusal.TheVariants.{BadLength, BadVersion, BadMode, BadField, BadPadding, BadArgument, BadState, BadCookie, NotAsked, NotInterleaved, NoRoom, NotStored, AfterMac}
use Rattle.refusal.specs.Refusal.{refusal_number}
use Rattle.refusal.specs.Claim.{NumbersDiffer, NumberAboveNone}

-- the refusals in the order of their numbers, with one in the place of 0
in_order : List Refusal
in_order =
    AfterMac ∷ BadLength ∷ BadVersion ∷ BadMode ∷ BadField ∷ BadPadding ∷ BadArgument ∷ BadState ∷ BadCookie ∷ NotAsked
    ∷ NotInterleaved ∷ NoRoom ∷ NotStored ∷ AfterMac ∷ []

back : (r : Refusal) → get_or in_order (refusal_number r) AfterMac ≡ r
unfolding in_order
back BadLength = refl
back BadVersion = refl
back BadMode = refl
back BadField = refl
back BadPadding = refl
back BadArgument = refl
back BadState = refl
back BadCookie = refl
back NotAsked = refl
back NotInterleaved = refl
back NoRoom = refl
back NotStored = refl
back AfterMac = refl

pub numbers_differ : NumbersDiffer
numbers_differ a b e = sym (back a) ∙ ap (λ (n : ℕ). get_or in_order n AfterMac) e ∙ back b

pub number_above_none : NumberAboveNone
number_above_none BadLength = lit< tt
number_above_none BadVersion = lit< tt
number_above_none BadMode = lit< tt
number_above_none BadField = lit< tt
number_above_none BadPadding = lit< tt
number_above_none BadArgument = lit< tt
number_above_none BadState = lit< tt
number_above_none BadCookie = lit< tt
number_above_none NotAsked = lit< tt
number_above_none NotInterleaved = lit< tt
number_above_none NoRoom = lit< tt
number_above_none NotStored = lit< tt
number_above_none AfterMac = lit< tt
