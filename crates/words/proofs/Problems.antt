-- The numbers of problems. Assumes nothing.
use Rattle.std.proofs.Common.{◌≡◌, refl, arith}
use Rattle.words.specs.declared.problem.Problem.{Problem}
use Rattle.words.specs.declared.problem.Problem.TheVariants.{UnknownCall, Missing, LeftOver, NotANumber, OutOfRange, NotOctets, OddDigits, TooManyOctets, TooLong, NoMode}
use Rattle.words.specs.Wrong.{problem_number}

-- no other problem has this number
pub not_a_number : (p : Problem) → problem_number p ≡ 4 → (p ≡ NotANumber → ⊥) → ⊥
not_a_number UnknownCall e h = omega arith
not_a_number Missing e h = omega arith
not_a_number LeftOver e h = omega arith
not_a_number NotANumber e h = h refl
not_a_number OutOfRange e h = omega arith
not_a_number NotOctets e h = omega arith
not_a_number OddDigits e h = omega arith
not_a_number TooManyOctets e h = omega arith
not_a_number TooLong e h = omega arith
not_a_number NoMode e h = omega arith

-- none has 0
pub some_problem : (p : Problem) → problem_number p ≡ 0 → ⊥
some_problem UnknownCall e = omega arith
some_problem Missing e = omega arith
some_problem LeftOver e = omega arith
some_problem NotANumber e = omega arith
some_problem OutOfRange e = omega arith
some_problem NotOctets e = omega arith
some_problem OddDigits e = omega arith
some_problem TooManyOctets e = omega arith
some_problem TooLong e = omega arith
some_problem NoMode e = omega arith
