-- What holds of differences, offset and delay, whatever the timestamps.
use Rattle.std.specs.Prelude.{◌≡◌, ℕ, ◌-◌, ◌^◌, ◌≤◌, ◌⊎◌, ◌↔◌, Option, Some, None, ℤ, pos, ◌+ℤ◌, ◌-ℤ◌, neg_ℤ, ◌≤ℤ◌}
use Rattle.measure.specs.Measure.{residue, difference, half_down, offset, delay, half_era, measurement}

-- the whole numbers from -2^63 to 2^63 - 1, those of a signed number of 64 bits
abbrev pub Signed64 : ℤ → Type 0
Signed64 z = (neg_ℤ (pos (2 ^ 63)) ≤ℤ z) × (z ≤ℤ pos (2 ^ 63 - 1))

-- T-4, W206-9: those of them whose minus is one too: all but -2^63
abbrev pub Symmetric64 : ℤ → Type 0
Symmetric64 z = (neg_ℤ (pos (2 ^ 63 - 1)) ≤ℤ z) × (z ≤ℤ pos (2 ^ 63 - 1))

-- T-3, T-4: the difference of two timestamps is the one number in that range that is a - b modulo 2^64, if there is one
abbrev pub DifferenceExactly : Type 0
DifferenceExactly = (a b : ℕ) (z : ℤ) → difference a b ≡ Some z ↔ (Symmetric64 z × (residue z ≡ residue (pos a -ℤ pos b)))

-- G-1: a and b are times, counted from the start of era 0 and of any sign, and a timestamp is the residue of a time; where the
-- difference of the times is in range, it is that of their timestamps
abbrev pub AcrossEras : Type 0
AcrossEras = (a b : ℤ) → Symmetric64 (a -ℤ b) → difference (residue a) (residue b) ≡ Some (a -ℤ b)

-- W206-1: and it has no sign exactly where the times are half an era, and any number of eras, apart
abbrev pub HalfEraExactly : Type 0
HalfEraExactly = (a b : ℤ) → difference (residue a) (residue b) ≡ None ↔ (residue (a -ℤ b) ≡ 2 ^ 63)

-- minus a difference; half an era is its own
abbrev pub minus : Option ℤ → Option ℤ
minus None = None
minus (Some z) = Some (neg_ℤ z)

-- W206-2
abbrev pub DifferenceSymmetric : Type 0
DifferenceSymmetric = (a b : ℕ) → difference a b ≡ minus (difference b a)

-- W206-3: each of the four differences counts: a measurement is judged 5, with zeros, where one of them is half an era, and else 0, with
-- offset and delay
pub record EachDifference (t1 t2 t3 t4 : ℕ) : Type 0 where
  pub outward : difference t2 t1 ≡ None → measurement t1 t2 t3 t4 ≡ half_era
  pub back : difference t3 t4 ≡ None → measurement t1 t2 t3 t4 ≡ half_era
  pub whole : difference t4 t1 ≡ None → measurement t1 t2 t3 t4 ≡ half_era
  pub inside : difference t3 t2 ≡ None → measurement t1 t2 t3 t4 ≡ half_era
  pub signed : (o b w i : ℤ) → difference t2 t1 ≡ Some o → difference t3 t4 ≡ Some b → difference t4 t1 ≡ Some w → difference t3 t2 ≡ Some i
      → measurement t1 t2 t3 t4 ≡ record { judgement = 0; offset = offset o b; delay = delay w i }

abbrev pub FourDifferences : Type 0
FourDifferences = (t1 t2 t3 t4 : ℕ) → EachDifference t1 t2 t3 t4

-- T-6: z is twice its half, or one more
abbrev pub RoundedDown : Type 0
RoundedDown = (z : ℤ) → (z ≡ half_down z +ℤ half_down z) ⊎ (z ≡ half_down z +ℤ half_down z +ℤ pos 1)

-- T-8, W206-11
abbrev pub OffsetExact : Type 0
OffsetExact = (t1 t2 t3 t4 : ℕ) → Symmetric64 (measurement t1 t2 t3 t4).offset

abbrev pub DelayExact : Type 0
DelayExact = (t1 t2 t3 t4 : ℕ) → (measurement t1 t2 t3 t4).delay ≤ 2 ^ 64 - 2

-- T-9, with the timestamps of M-11
abbrev pub SumExceeds : Type 0
SumExceeds = (difference (2 ^ 63) 1 ≡ Some (pos (2 ^ 63 - 1))) × (Signed64 (pos (2 ^ 63 - 1) +ℤ pos (2 ^ 63 - 1)) → ⊥)
