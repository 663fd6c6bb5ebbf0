-- The store, R-1 to R-3: the row of saved timestamps, its octets, and what clearing and a report do to it.
use Rattle.std.specs.Prelude.{Bool, true, false, cond, not, ◌&&◌, ◌||◌, List, [], ◌∷◌, ◌++◌, ℕ, zero, suc, ◌+◌, ◌-◌, ◌*◌, ◌/◌, ◌%◌, eqb, ltb, length, drop, replicate}
use Rattle.octets.specs.Number.{num, octets}

-- R-2: a record
pub record Record : Type 0 where
  pub cookie : ℕ
  pub time : ℕ

-- a cookie is in the row
unfoldable pub held : ℕ → List Record → Bool
held c [] = false
held c (r ∷ row) = eqb r.cookie c || held c row

-- the time reported for a cookie, 0 where the cookie isn't in the row or its time isn't reported
unfoldable pub time_of : ℕ → List Record → ℕ
time_of c [] = 0
time_of c (r ∷ row) = cond (eqb r.cookie c) r.time (time_of c row)

-- R-3: the row after a report
unfoldable pub with_time : ℕ → ℕ → List Record → List Record
with_time c t [] = []
with_time c t (r ∷ row) = cond (eqb r.cookie c) (record { cookie = c; time = t } ∷ row) (r ∷ with_time c t row)

-- R-10: the record of a cookie leaves the row
unfoldable pub without : ℕ → List Record → List Record
without c [] = []
without c (r ∷ row) = cond (eqb r.cookie c) row (r ∷ without c row)

-- R-12, R-13: a fresh cookie joins a row of at most n
abbrev pub joined : ℕ → ℕ → List Record → List Record
joined n c row = cond (ltb (length row) n) row (drop 1 row) ++ (record { cookie = c; time = 0 } ∷ [])

-- a record is 16 octets, cookie then time
abbrev pub record_octets : Record → List ℕ
record_octets r = octets 8 r.cookie ++ octets 8 r.time

unfoldable pub row_octets : List Record → List ℕ
row_octets [] = []
row_octets (r ∷ row) = record_octets r ++ row_octets row

-- R-2: a store of n records; an unused one is zeros
unfoldable pub store_octets : ℕ → List Record → List ℕ
store_octets n row = row_octets row ++ replicate (16 * (n - length row)) 0

-- the n records of a store from octet `at` on
unfoldable pub records_from : ℕ → List ℕ → ℕ → List Record
records_from zero s at = []
records_from (suc n) s at = record { cookie = num s at 8; time = num s (at + 8) 8 } ∷ records_from n s (at + 16)

-- how many records a store has
abbrev pub size_of : List ℕ → ℕ
size_of s = length s / 16

abbrev pub records_of : List ℕ → List Record
records_of s = records_from (size_of s) s 0

-- a record is unused when both its numbers are 0
abbrev pub unused : Record → Bool
unused r = eqb r.cookie 0 && eqb r.time 0

abbrev pub unused_record : Record
unused_record = record { cookie = 0; time = 0 }

unfoldable pub all_unused : List Record → Bool
all_unused [] = true
all_unused (r ∷ rs) = unused r && all_unused rs

-- R-2: the row, the records before the first unused one
unfoldable pub used_of : List Record → List Record
used_of [] = []
used_of (r ∷ rs) = cond (unused r) [] (r ∷ used_of rs)

abbrev pub row_of : List ℕ → List Record
row_of s = used_of (records_of s)

-- N-14 does not apply
unfoldable pub sound_records : List Record → Bool
sound_records [] = true
sound_records (r ∷ rs) = cond (unused r) (all_unused rs) (not (eqb r.cookie 0) && not (held r.cookie rs) && sound_records rs)

-- N-10, by R-1
abbrev pub wrong_size : List ℕ → Bool
wrong_size s = ltb (length s) 16 || ltb 1024 (length s) || not (eqb (length s % 16) 0)

-- the store part of refusal 6: the size, N-10, and the records, N-14
abbrev pub wrong_row : (size : Bool) → List Record → Bool
wrong_row size rs = size || not (sound_records rs)

unfoldable pub wrong_store : List ℕ → Bool
wrong_store s = wrong_row (wrong_size s) (records_of s)

-- N-15: the refusal of clearing, and the store after it, whatever holds the row
abbrev pub clearing_to : {S : Type 0} → (size : Bool) (before after : S) → ℕ × S
clearing_to size before after = cond size (6, before) (0, after)

-- R-1
unfoldable pub cleared : List ℕ → ℕ × List ℕ
cleared s = clearing_to (wrong_size s) s (store_octets (size_of s) [])

-- the refusal of a report: 6 for the store or by N-16, then N-24
abbrev pub refused_report : (wrong : Bool) (row : List Record) (c t : ℕ) → ℕ
refused_report wrong row c t =
    cond (wrong || eqb t 0) 6
    (cond (not (held c row) || not (eqb (time_of c row) 0)) 12
    0)

abbrev pub report_refusal : List ℕ → ℕ → ℕ → ℕ
report_refusal s c t = refused_report (wrong_store s) (row_of s) c t

-- N-28: a refusal leaves what was there, whatever holds the row
abbrev pub kept_if_refused : {S : Type 0} → (refusal : ℕ) (before after : S) → ℕ × S
kept_if_refused refusal before after = cond (eqb refusal 0) (0, after) (refusal, before)

-- R-3
unfoldable pub reporting : List ℕ → ℕ → ℕ → ℕ × List ℕ
reporting s c t = kept_if_refused (report_refusal s c t) s (store_octets (size_of s) (with_time c t (row_of s)))
