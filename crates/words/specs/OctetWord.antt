-- Octets as a word: pairs of hexadecimal digits, some with a count, and commas between them.
use Rattle.std.specs.Prelude.{ℕ, zero, suc, ◌+◌, ◌-◌, ◌*◌, ◌%◌, true, cond, ◌&&◌, List, length, take, drop, ◌==◌, nat_le, nat_lt}
use Rattle.octets.specs.Number.{get_at, put_at}
use Rattle.words.specs.Numeral.{Value, digit_of, digits_of, value}
use Rattle.text.specs.Place.{part_of, octet_place}

-- a pair at a text's start: how often its octet stands, how much text says so, with a comma after it, and what is wrong with it, or 0
pub record Run : Type 0 where
  pub times : ℕ
  pub end : ℕ
  pub problem : ℕ

abbrev pub run : ℕ → ℕ → Run
run times end = record { times = times; end = end; problem = 0 }

abbrev pub wrong : ℕ → Run
wrong problem = record { times = 0; end = 0; problem = problem }

-- a comma at `at` is passed, and more has to follow it: else the word is not octets, 6
unfoldable pub separated_at : List ℕ → ℕ → ℕ → Run
separated_at s at times = cond (get_at s at 1 == 44) (cond (length (drop at s) == 1) (wrong 6) (run times (at + 1))) (run times at)

-- a pair, a star and a number, which goes to the next comma or the end
unfoldable pub after_count : List ℕ → ℕ → Value → Run
after_count s end count = cond (count.problem == 4) (wrong 6) (separated_at s end count.value)

unfoldable pub counted_run : List ℕ → Run
counted_run s = after_count s (octet_place s 3 44 true) (digits_of 10 18446744073709551615 (part_of s 3 (octet_place s 3 44 true)))

-- what stands at a text's start; a digit without its pair is 7
unfoldable pub run_of : List ℕ → Run
run_of s =
    cond (nat_lt 15 (digit_of (get_at s 0 1))) (wrong 6)
    (cond (nat_lt 15 (digit_of (get_at s 1 1))) (wrong 7)
    (cond (get_at s 2 1 == 42) (counted_run s)
    (separated_at s 2 1)))

-- the octet of its pair
unfoldable pub pair_of : List ℕ → ℕ
pair_of s = digit_of (get_at s 0 1) % 16 * 16 + digit_of (get_at s 1 1) % 16

-- what is wrong with a run after so many octets; above 4,096 of them is 8
unfoldable pub run_problem : Run → ℕ → ℕ
run_problem r count = cond (r.problem == 0) (cond (nat_le r.times (4096 - count)) 0 8) r.problem

-- an octet written n times from a place on, where there are the places
unfoldable pub fill_from : List ℕ → ℕ → ℕ → ℕ → List ℕ
fill_from b from zero octet = b
fill_from b from (suc n) octet = fill_from (put_at b (from + n) 1 octet) from n octet

-- the runs of a text written one after the other, up to the first that is wrong; how many octets they are; a run takes an octet
-- of the text at least, so that as many turns as octets are enough
unfoldable pub write_from : ℕ → List ℕ → ℕ → List ℕ → Value × List ℕ
write_from zero b count s = (value count 0, b)
write_from (suc turns) b count s =
    cond (nat_lt 0 (length s))
    (cond (run_problem (run_of s) count == 0)
    (write_from turns (fill_from b count (run_of s).times (pair_of s)) (count + (run_of s).times) (drop (run_of s).end s))
    (value count (run_problem (run_of s) count), b))
    (value count 0, b)

-- a minus sign is no octets
unfoldable pub write_of : List ℕ → List ℕ → Value × List ℕ
write_of s b = cond (length s == 1 && get_at s 0 1 == 45) (value 0 0, b) (write_from (length s) b 0 s)

-- the octets that a word spells, written in a buffer: as many of them as it has places for
unfoldable pub word_octets : List ℕ → List ℕ → List ℕ
word_octets s b = take (write_of s b).0.value (write_of s b).1
