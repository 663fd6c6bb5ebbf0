-- The store, R-1 to R-3, as a lent slice of records, G-9: what each call answers and leaves, for any records lent.
-- The row's own rules are those of `store_rules`: sound records, when a clear and a report are refused and what they leave, a cookie that is held, its time.
use Rattle.std.specs.Prelude.{◌≡◌, Bool, cond, ◌||◌, List, [], ◌∷◌, ◌++◌, map, ℕ, ◌+◌, ◌<◌, ◌^◌, eqb, ltb, length, get_or, take, drop, replicate}
use Rattle.store_rules.specs.Row.{Record, held, with_time, used_of, wrong_row, clearing_to, refused_report, kept_if_refused}
pub use Rattle.store_rules.specs.Row.{unused_record}
use Rattle.store_rules.specs.Place.{index_of}
use Rattle.records.specs.declared.Record.{Record as Slot}

-- ---- the one conversion: a record of a slice is a record of the row

abbrev pub record_of : Slot → Record
record_of r = record { cookie = r.cookie.0; time = r.time }

abbrev pub records_in : List Slot → List Record
records_in rs = map record_of rs

-- so that what is said of the records fixes the slice
abbrev pub OneToOne : Type 0
OneToOne = (rs ss : List Slot) → records_in rs ≡ records_in ss → rs ≡ ss

-- numbers of 64 bits, as every u64 is
abbrev pub Fit : List Record → Type 0
Fit [] = Unit {0}
Fit (r ∷ rs) = (r.cookie < 2 ^ 64) × (r.time < 2 ^ 64) × Fit rs

-- ---- the calls

-- where the first record with a cookie stands, from a place on; the end where there is none
abbrev pub place_from : List Record → (cookie from : ℕ) → ℕ
place_from rs c i = i + index_of c (drop i rs)

-- the transmit time of the record at a place; 0 past the end
abbrev pub time_at : List Record → (at : ℕ) → ℕ
time_at rs at = (get_or rs at unused_record).time

-- N-10, by R-1
abbrev pub wrong_count : ℕ → Bool
wrong_count n = ltb n 1 || ltb 64 n

unfoldable pub wrong_records : List Record → Bool
wrong_records rs = wrong_row (wrong_count (length rs)) rs

unfoldable pub clear_records : List Record → ℕ × List Record
clear_records rs = clearing_to (wrong_count (length rs)) rs (replicate (length rs) unused_record)

abbrev pub report_refusal : List Record → ℕ → ℕ → ℕ
report_refusal rs c t = refused_report (wrong_records rs) (used_of rs) c t

unfoldable pub report_records : List Record → ℕ → ℕ → ℕ × List Record
report_records rs c t = kept_if_refused (report_refusal rs c t) rs (with_time c t rs)

-- the record at a place leaves: those after it move up by one, and the last is unused; past the end none leaves
unfoldable pub leave_records : List Record → ℕ → List Record
leave_records rs at = take at rs ++ drop (at + 1) (rs ++ (unused_record ∷ []))

-- the first record with cookie 0 gets a cookie
unfoldable pub with_cookie_at_free : ℕ → List Record → List Record
with_cookie_at_free c [] = []
with_cookie_at_free c (r ∷ rs) = cond (eqb r.cookie 0) (record { cookie = c; time = r.time } ∷ rs) (r ∷ with_cookie_at_free c rs)

-- R-12, R-13: a cookie joins; where no record has cookie 0, the row is full
unfoldable pub join_records : List Record → ℕ → List Record
join_records rs c = with_cookie_at_free c (cond (held 0 rs) rs (leave_records rs 0))
