-- The editions of the draft, W204-1, and what differs between them but for the header's layout.
use Rattle.std.specs.Prelude.{Bool, Result, Ok, Err, cond, ◌||◌, ℕ, ◌/◌, ◌%◌, ◌≤◌, eqb, ltb}
use Rattle.header.specs.declared.edition.Edition.{Edition}
use Rattle.header.specs.declared.edition.Edition.TheVariants.{One, Seven}

-- W204-1: by its number
abbrev pub edition_number : Edition → ℕ
edition_number One = 1
edition_number Seven = 7

abbrev pub is_edition : ℕ → Bool
is_edition n = eqb n 1 || eqb n 7

-- the edition of a number. That a number which names none has 7 is ours, where an edition is asked for
abbrev pub edition_of : ℕ → Edition
edition_of n = cond (eqb n 1) One Seven

-- W204-1, G-11: the edition that a number names, or 6
abbrev pub named_edition : ℕ → Result Edition ℕ
named_edition n = cond (is_edition n) (Ok (edition_of n)) (Err 6)

-- W204-5: the largest that a header can hold
abbrev pub most_stratum : Edition → ℕ
most_stratum One = 15
most_stratum Seven = 255

abbrev pub most_timescale : Edition → ℕ
most_timescale One = 15
most_timescale Seven = 255

abbrev pub most_flags : Edition → ℕ
most_flags One = 255
most_flags Seven = 65535

abbrev pub over_limits : Edition → (stratum timescale flags : ℕ) → Bool
over_limits e stratum timescale flags = ltb (most_stratum e) stratum || ltb (most_timescale e) timescale || ltb (most_flags e) flags

-- a header can hold these
pub record Within (e : Edition) (stratum timescale flags : ℕ) : Type 0 where
  pub stratum-held : stratum ≤ most_stratum e
  pub timescale-held : timescale ≤ most_timescale e
  pub flags-held : flags ≤ most_flags e

-- H-8, W204-4: a response with this flag is interleaved, a request wants such a response
abbrev pub interleaved_bit : Edition → ℕ
interleaved_bit One = 4
interleaved_bit Seven = 2

abbrev pub interleaved_flag : Edition → ℕ → Bool
interleaved_flag e flags = eqb (flags / interleaved_bit e % 2) 1
