-- What the code answers of a word, as the numbers that the definitions speak of.
use Rattle.std.specs.Prelude.{ℕ, ◌+◌, ◌*◌, ◌%◌, cond, nat_le, nat_lt, ◌==◌, Option, Some, None, Result, Ok, Err}
use Rattle.words.specs.declared.problem.Problem.{Problem}
use Rattle.words.specs.declared.problem.Problem.TheVariants.{UnknownCall, Missing, LeftOver, NotANumber, OutOfRange, NotOctets, OddDigits, TooManyOctets, TooLong, NoMode}
use Rattle.words.specs.declared.problem.Wrong as code
use Rattle.words.specs.declared.number.Base.{Base}
use Rattle.words.specs.declared.number.Base.TheVariants.{Decimal, Hexadecimal}
use Rattle.words.specs.declared.octet_word.Run as run_code
use Rattle.words.specs.Numeral.{Value, value, digit_of}
use Rattle.words.specs.OctetWord.{Run, run, wrong, run_problem}

-- each problem's number
abbrev pub problem_number : Problem → ℕ
problem_number UnknownCall = 1
problem_number Missing = 2
problem_number LeftOver = 3
problem_number NotANumber = 4
problem_number OutOfRange = 5
problem_number NotOctets = 6
problem_number OddDigits = 7
problem_number TooManyOctets = 8
problem_number TooLong = 9
problem_number NoMode = 10

-- 0 where nothing is wrong
abbrev pub value_of : Result ℕ code.Wrong → Value
value_of (Ok n) = value n 0
value_of (Err w) = value w.value (problem_number w.problem)

-- a run that is wrong says nothing else
abbrev pub run_as : Result run_code.Run Problem → Run
run_as (Ok r) = run r.times r.end
run_as (Err p) = wrong (problem_number p)

abbrev pub radix_of : Base → ℕ
radix_of Decimal = 10
radix_of Hexadecimal = 16

-- a digit of a base
abbrev pub digit_below : ℕ → ℕ → Option ℕ
digit_below base x = cond (nat_lt (digit_of x) base) (Some (digit_of x)) None

-- a number with a digit more, if it is at most `most`
abbrev pub more : (base most d : ℕ) → Option ℕ → Option ℕ
more base most d (Some n) = cond (nat_le (n * base + d) most) (Some (n * base + d)) None
more base most d None = None

-- a digit's part of its pair's octet
abbrev pub nibble_of : ℕ → ℕ
nibble_of x = digit_of x % 16

-- a run, judged after so many octets
abbrev pub allowed : Run → ℕ → Run
allowed r count = cond (run_problem r count == 0) r (wrong (run_problem r count))
