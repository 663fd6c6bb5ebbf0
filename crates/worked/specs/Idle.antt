-- The idle programs of measurement and weight, P-7 and P-9, and that they are rejected: the claim that the rule names is false of each.
use Rattle.std.specs.Prelude.{◌≡◌, List, ℕ, ◌+◌, ℤ, length}
use Rattle.filter_rules.specs.Filter.{weight}
use Rattle.measure.specs.Measure.{Measurement}
use Rattle.worked.specs.Cases.{MeasurementFunction, WeightFunction, WorkedFor}

-- ONE FIXED ANSWER: P-7

abbrev pub constant_answer : Measurement → MeasurementFunction
constant_answer a t1 t2 t3 t4 = a

-- a measurement with one offset, whatever its delay, and one with one delay, whatever its offset
abbrev pub OneOffset : ℤ → MeasurementFunction → Type 0
OneOffset x m = (t1 t2 t3 t4 : ℕ) → (m t1 t2 t3 t4).offset ≡ x

abbrev pub OneDelay : ℕ → MeasurementFunction → Type 0
OneDelay n m = (t1 t2 t3 t4 : ℕ) → (m t1 t2 t3 t4).delay ≡ n

-- AN INVENTED WEIGHT: P-9

abbrev pub fixed_weight : ℕ → WeightFunction
fixed_weight n f = n

-- one more than the positions that are set
abbrev pub one_added : WeightFunction
one_added f = weight f + 1

-- weight's definition, B-6, of every filter
abbrev pub WeightFor : WeightFunction → Type 0
WeightFor w = (f : List ℕ) → length f ≡ 512 → w f ≡ weight f

-- THE CLAIM

pub record IdleRejected : Type 0 where
  -- M-8 against M-9, whatever the weight
  pub fixed_answer : (a : Measurement) (w : WeightFunction) → WorkedFor (constant_answer a) w → ⊥
  pub one-offset : (x : ℤ) (m : MeasurementFunction) (w : WeightFunction) → OneOffset x m → WorkedFor m w → ⊥
  pub one-delay : (n : ℕ) (m : MeasurementFunction) (w : WeightFunction) → OneDelay n m → WorkedFor m w → ⊥
  -- weight's definition
  pub fixed-weight : (n : ℕ) → WeightFor (fixed_weight n) → ⊥
  pub one_more : WeightFor one_added → ⊥
  -- and the cases, whatever the measurement: M-5 against M-7, and M-5
  pub fixed-weight-worked : (n : ℕ) (m : MeasurementFunction) → WorkedFor m (fixed_weight n) → ⊥
  pub one-more-worked : (m : MeasurementFunction) → WorkedFor m one_added → ⊥
