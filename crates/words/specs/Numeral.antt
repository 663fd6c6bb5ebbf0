-- Numbers as words: decimal, or hexadecimal after 0x; signed ones may begin with a minus sign.
use Rattle.std.specs.Prelude.{ℕ, ◌+◌, ◌-◌, ◌*◌, ◌%◌, ◌^◌, Bool, true, false, cond, ◌&&◌, List, [], ◌∷◌, length, drop, ◌==◌, nat_le, nat_lt}
use Rattle.octets.specs.Number.{get_at}

-- a word's value: a number, or how many octets it has; and what is wrong with it, or 0
pub record Value : Type 0 where
  pub value : ℕ
  pub problem : ℕ

-- 0 to 9, then a to f or A to F; 16 is no digit
unfoldable pub digit_of : ℕ → ℕ
digit_of x =
    cond (nat_le 48 x && nat_le x 57) (x - 48)
    (cond (nat_le 97 x && nat_le x 102) (x - 87)
    (cond (nat_le 65 x && nat_le x 70) (x - 55)
    16))

unfoldable pub all_digits : ℕ → List ℕ → Bool
all_digits base [] = true
all_digits base (x ∷ xs) = cond (nat_le base (digit_of x)) false (all_digits base xs)

-- the number that digits spell after what was read before them
unfoldable pub number_of : ℕ → ℕ → List ℕ → ℕ
number_of base n [] = n
number_of base n (x ∷ xs) = number_of base (n * base + digit_of x) xs

abbrev pub value : ℕ → ℕ → Value
value n problem = record { value = n; problem = problem }

-- a number above `most` is out of range, 5, and reads as `most`
unfoldable pub at_most : ℕ → ℕ → Value
at_most most n = cond (nat_le n most) (value n 0) (value most 5)

-- no digits at all, or something else among them, is not a number, 4
unfoldable pub digits_of : ℕ → ℕ → List ℕ → Value
digits_of base most s = cond (nat_lt 0 (length s)) (cond (all_digits base s) (at_most most (number_of base 0 s)) (value 0 4)) (value 0 4)

-- hexadecimal after 0x, else decimal
unfoldable pub unsigned_of : ℕ → List ℕ → Value
unsigned_of most s = cond (get_at s 0 1 == 48 && get_at s 1 1 == 120) (digits_of 16 most (drop 2 s)) (digits_of 10 most s)

-- two's complement of 64 bits
abbrev pub negated : Value → Value
negated v = value ((2 ^ 64 - v.value) % 2 ^ 64) v.problem

-- -(`most` + 1) to `most`
unfoldable pub signed_of : ℕ → List ℕ → Value
signed_of most s = cond (get_at s 0 1 == 45) (negated (unsigned_of (most + 1) (drop 1 s))) (unsigned_of most s)

-- the largest number of a letter: b, h, w are 8, 16, 32 bits, any other 64
unfoldable pub most_of : ℕ → ℕ
most_of letter =
    cond (letter == 98) 255
    (cond (letter == 104) 65535
    (cond (letter == 119) 4294967295
    18446744073709551615))

-- s is 8 bits with a sign, t 16
unfoldable pub word_value : ℕ → List ℕ → Value
word_value letter s =
    cond (letter == 115) (signed_of 127 s)
    (cond (letter == 116) (signed_of 32767 s)
    (unsigned_of (most_of letter) s))
