-- What the code answers of a line, as the numbers that the definitions speak of.
use Rattle.std.specs.Prelude.{ℕ, cond, eqb, Option, Some, None, Result, Ok, Err}
use Rattle.words.specs.declared.problem.Problem.{Problem}
use Rattle.words.specs.Wrong.{problem_number}
use Rattle.rows.specs.declared.Fault.{Fault}
use Rattle.rows.specs.Rows.{Found, found, call_in}

-- 0 where nothing is wrong
abbrev pub outcome_problem : Result Unit Problem → ℕ
outcome_problem (Ok _) = 0
outcome_problem (Err p) = problem_number p

-- 64 is no row
abbrev pub some_row : ℕ → Option ℕ
some_row n = cond (eqb n 64) None (Some n)

-- what is wrong with a call's words
abbrev pub with_call : ℕ → Result Unit Fault → Found
with_call call (Ok _) = found call 0 0
with_call call (Err f) = found call f.word (problem_number f.problem)

-- a call where nothing is wrong, and what is wrong with which word
abbrev pub told : Found → Option ℕ × (ℕ × ℕ)
told f = (some_row (call_in f), (f.word, f.problem))

abbrev pub outcome_as : Result (Option ℕ) Fault → Option ℕ × (ℕ × ℕ)
outcome_as (Ok call) = (call, (0, 0))
outcome_as (Err f) = (None, (f.word, problem_number f.problem))

-- a line with something wrong is no call
abbrev pub called : Result (Option ℕ) Fault → Option ℕ
called r = (outcome_as r).0
