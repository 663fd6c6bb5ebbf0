-- The calls by the numbers of their rows.
use Rattle.std.specs.Prelude.{ℕ, eqb, cond, Option, Some, None}
use Rattle.std.specs.Option.{unwrap_or}
use Rattle.actions.specs.declared.Action.{Action}
use Rattle.actions.specs.declared.Action.TheVariants.{Store, Lend, Report, Answer}

abbrev pub row_number : Action → ℕ
row_number Store = 15
row_number Lend = 16
row_number Report = 17
row_number Answer = 18

abbrev pub action_at : ℕ → Option Action
action_at n =
    cond (eqb n 15) (Some Store)
    (cond (eqb n 16) (Some Lend)
    (cond (eqb n 17) (Some Report)
    (cond (eqb n 18) (Some Answer)
    None)))

-- the call of any number: as `kept_after` has it, the last one's where it is that of no row
abbrev pub action_for : ℕ → Action
action_for n = unwrap_or (action_at n) Answer
