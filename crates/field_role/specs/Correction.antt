-- The Correction field, 0xF506, W209-1: when it is good, and where its parts stand, by figure 6 of the draft.
use Rattle.std.specs.Prelude.{Bool, ℕ, ◌+◌, eqb}
use Rattle.chain.specs.declared.cursor.Field.{Field}

-- one of n data octets is good: its length is 28 with the field's own header
abbrev pub good_correction : ℕ → Bool
good_correction n = eqb n 24

-- the data are the origin correction (8 octets), the origin path (2), two reserved octets, the delay correction (8), signed, the path (2)
-- and the checksum complement (2)

abbrev pub origin_place : Field → ℕ
origin_place f = f.start

abbrev pub origin_path_place : Field → ℕ
origin_path_place f = f.start + 8

abbrev pub delay_place : Field → ℕ
delay_place f = f.start + 12

abbrev pub path_place : Field → ℕ
path_place f = f.start + 20

abbrev pub complement_place : Field → ℕ
complement_place f = f.start + 22
