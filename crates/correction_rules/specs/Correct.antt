-- The switch call, W209-8 to W209-14: what it returns and what it leaves of a datagram.
use Rattle.std.specs.Prelude.{Bool, cond, List, ℕ, ◌+◌, ◌-◌, ◌%◌, ◌^◌, eqb, ltb, ℤ, pos, negsuc, ◌+ℤ◌, Option, Some, None}
use Rattle.std.specs.Int.{w64}
use Rattle.std.proofs.Common.{to_z, of_z}
use Rattle.octets.specs.Number.{num, put_at}
use Rattle.chain.specs.Chain.{either_refusal}
use Rattle.chain.specs.Field.{fields_of, first_of}
use Rattle.chain.specs.declared.cursor.Field.{Field}
use Rattle.field_role.specs.Correction.{good_correction, delay_place, path_place, complement_place}
use Rattle.correction_rules.specs.Sum.{word_sum}

-- W209-1, W209-9: the good Correction field of a datagram: the first of its type, if its length is right
abbrev pub good_only : Option Field → Option Field
good_only (Some f) = cond (good_correction f.size) (Some f) None
good_only None = None

unfoldable pub correction_of : List ℕ → Option Field
correction_of s = good_only (first_of 0xF506 (fields_of s))

-- W209-1: what it holds
abbrev pub delay_of : Field → List ℕ → ℤ
delay_of f s = to_z w64 (num s (delay_place f) 8)

abbrev pub path_of : Field → List ℕ → ℕ
path_of f s = num s (path_place f) 2

abbrev pub complement_of : Field → List ℕ → ℕ
complement_of f s = num s (complement_place f) 2

-- W209-10: a whole number from -2^63 to 2^63 - 1; `negsuc n` is -(n + 1)
abbrev pub is_signed64 : ℤ → Bool
is_signed64 (pos n) = ltb n (2 ^ 63)
is_signed64 (negsuc n) = ltb n (2 ^ 63)

-- W209-14: the three parts that a switch writes, and no others
unfoldable pub edited : Field → (delay : ℤ) (path complement : ℕ) → List ℕ → List ℕ
edited f delay path complement s = put_at (put_at (put_at s (delay_place f) 8 (of_z w64 delay)) (path_place f) 2 path) (complement_place f) 2 complement

-- W209-13: what the sum modulo 65,535 lacks where the complement is 0
abbrev pub complement_for : Field → (delay : ℤ) (path : ℕ) → List ℕ → ℕ
complement_for f delay path s = (word_sum s + (65535 - word_sum (edited f delay path 0 s) % 65535)) % 65535

-- the datagram with these two parts, and the complement that is due
abbrev pub with_parts : Field → (delay : ℤ) (path : ℕ) → List ℕ → List ℕ
with_parts f delay path s = edited f delay path (complement_for f delay path s) s

-- W209-11, W209-12
abbrev pub delay_after : Field → (delay : ℤ) → List ℕ → ℤ
delay_after f delay s = delay_of f s +ℤ delay

abbrev pub path_after : Field → (ingress egress : ℕ) → List ℕ → ℕ
path_after f ingress egress s = (path_of f s + ingress + egress) % 2 ^ 16

-- by the good field, or that there is none: W209-9, then W209-10
abbrev pub corrected_at : Option Field → (delay : ℤ) (ingress egress : ℕ) → List ℕ → ℕ × List ℕ
corrected_at (Some f) delay ingress egress s =
    cond (is_signed64 (delay_after f delay s)) (0, with_parts f (delay_after f delay s) (path_after f ingress egress s) s) (6, s)
corrected_at None delay ingress egress s = (12, s)

-- the refusal number and the datagram; W209-8 comes first
unfoldable pub corrected : (delay : ℤ) (ingress egress : ℕ) → List ℕ → ℕ × List ℕ
corrected delay ingress egress s =
    cond (eqb (either_refusal s) 0) (corrected_at (correction_of s) delay ingress egress s) (either_refusal s, s)
