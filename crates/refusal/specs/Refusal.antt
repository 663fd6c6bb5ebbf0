-- The refusals and their numbers, N-1 to N-24.
use Rattle.std.specs.Prelude.{ℕ, eqb, Bool, true, not, Result, Ok, Err}
use Rattle.refusal.specs.declared.Refusal.{Refusal}
use Rattle.refusal.specs.declared.Refusal.TheVariants.{BadLength, BadVersion, BadMode, BadField, BadPadding, BadArgument, BadState, BadCookie, NotAsked, NotInterleaved, NoRoom, NotStored, AfterMac}

abbrev pub refusal_number : Refusal → ℕ
refusal_number BadLength = 1
refusal_number BadVersion = 2
refusal_number BadMode = 3
refusal_number BadField = 4
refusal_number BadPadding = 5
refusal_number BadArgument = 6
refusal_number BadState = 7
refusal_number BadCookie = 8
refusal_number NotAsked = 9
refusal_number NotInterleaved = 10
refusal_number NoRoom = 11
refusal_number NotStored = 12
refusal_number AfterMac = 13

-- N-27: the number of what a call answers, 0 where it is not refused; `number` is that of what it is refused by
abbrev pub outcome_by : {R : Type 0} → (number : R → ℕ) → Result Unit R → ℕ
outcome_by number (Ok _) = 0
outcome_by number (Err r) = number r

abbrev pub outcome_number : Result Unit Refusal → ℕ
outcome_number r = outcome_by refusal_number r

-- the same of a call that answers a value
abbrev pub result_by : {A R : Type 0} → (number : R → ℕ) → Result A R → Result A ℕ
result_by number (Ok x) = Ok x
result_by number (Err r) = Err (number r)

abbrev pub by_number : {A : Type 0} → Result A Refusal → Result A ℕ
by_number r = result_by refusal_number r

-- what refuses has another number than 0, so that the number tells whether a call was refused
abbrev pub not_by_0 : {A R : Type 0} → (number : R → ℕ) → Result A R → Bool
not_by_0 number (Ok x) = true
not_by_0 number (Err r) = not (eqb (number r) 0)

-- beside all else that a call answers
abbrev pub and_not_by_0 : {A : Type 0} → A → A × Bool
and_not_by_0 x = (x, true)
