-- What a report comes to, by the record that has the cookie. Assumes nothing.
use mathlib.Core.Path.{◌≡◌, refl, sym, ap, ◌∙◌}
use mathlib.Core.Bool.{Bool, true, false, cond, not, ◌||◌}
use mathlib.Core.List.{List}
use Prim.Native.Nat.{ℕ, ◌<◌, ◌≤◌}
use native.Mathlib.Nat.{zero-add}
use borrow.Author.Tests.{eqb-true, eqb-false, lt-ltb, le-ltb}
use lib.Dec.{eqb}
use Rattle.std.specs.Prelude.{Result, Ok, Err}
use lib.ListN.{length, get_or, set}
use lib.Seq.{get_or_at, set_at}
use Rattle.store_rules.specs.Row.{Record, held, time_of, with_time, used_of}
use Rattle.store_rules.specs.Place.{index_of}
use Rattle.octets.proofs.Tests.{or-none}
use Rattle.store_rules.proofs.Rows.{Parted, part-row, held-index}
use Rattle.store_rules.proofs.Stores.{held-used}
use Rattle.records.specs.Records.{record_of, records_in, unused_record, wrong_records, report_records, place_from}
use Rattle.records.specs.Value.{reported_one, absent_refusal}
use Rattle.records.specs.declared.Record.{Record as Slot}
use Rattle.records.proofs.Slots.{none, length-in, get_in, set-in}
use Rattle.records.proofs.Sounds.{Sound, held-row, time-row, right-sound}

-- ---- a report, by its tests

module _ (rs : List Record) (c t : ℕ) where
  -- the records or the time
  report-six : wrong_records rs || eqb t 0 ≡ true → (6, rs) ≡ report_records rs c t
  unfolding report_records
  report-six h = rw h

  module _ (h : wrong_records rs || eqb t 0 ≡ false) where
    -- the cookie is not in the row
    report-twelve : held c (used_of rs) ≡ false → (12, rs) ≡ report_records rs c t
    unfolding report_records
    report-twelve e = rw (h, e)

    -- or has its time
    report-again : held c (used_of rs) ≡ true → eqb (time_of c (used_of rs)) 0 ≡ false → (12, rs) ≡ report_records rs c t
    unfolding report_records
    report-again e z = rw (h, e, z)

    report-zero : held c (used_of rs) ≡ true → eqb (time_of c (used_of rs)) 0 ≡ true → (0, with_time c t rs) ≡ report_records rs c t
    unfolding report_records
    report-zero e z = rw (h, e, z)

-- no record has the cookie
pub report-absent : (rs : List Record) (c t p : ℕ) (w : Bool) → w ≡ wrong_records rs → p ≡ place_from rs c 0 → length rs ≤ p → (absent_refusal w t, rs) ≡ report_records rs c t
report-absent rs c t p w ew ep l = go (wrong_records rs || eqb t 0) refl
  where
    not-held : held c rs ≡ false
    not-held = held-index c rs ∙ rw (← zero-add (index_of c rs), ← ep) (le-ltb p (length rs) l)

    go : (b : Bool) → wrong_records rs || eqb t 0 ≡ b → (absent_refusal w t, rs) ≡ report_records rs c t
    go true h = rw (ew, h) (report-six rs c t h)
    go false h = rw (ew, h) (report-twelve rs c t h (held-used c rs not-held))

-- what a report answers and leaves, by what becomes of the record at p
abbrev pub settled : List Slot → (p : ℕ) → Result Slot ℕ → ℕ × List Record
settled rs p (Ok s) = (0, records_in (set rs p s))
settled rs p (Err n) = (n, records_in rs)

-- the record at p has it
module _ (rs : List Slot) (c t p : ℕ) (ep : p ≡ place_from (records_in rs) c 0) (l : p < length rs) where
  place_is : index_of c (records_in rs) ≡ p
  place_is = sym (ep ∙ zero-add (index_of c (records_in rs)))

  is_held : held c (records_in rs) ≡ true
  is_held = held-index c (records_in rs) ∙ rw (place_is, length-in rs) (lt-ltb p (length rs) l)

  parted : Parted c (records_in rs)
  parted = part-row c (records_in rs) is_held

  at_p : length parted.before ≡ p
  at_p = sym parted.index ∙ place_is

  found : record_of (get_or rs p none) ≡ parted.found
  found = sym (get_in rs p) ∙ rw parted.whole (get_or_at parted.before parted.found parted.after unused_record p at_p)

  its-cookie : (get_or rs p none).cookie.0 ≡ c
  its-cookie = ap (λ (r : Record). r.cookie) found ∙ parted.its-cookie

  its-time : time_of c (records_in rs) ≡ (get_or rs p none).time
  its-time = parted.its-time ∙ ap (λ (r : Record). r.time) (sym found)

  -- it is stored with the time
  timed : Slot
  timed = record { cookie = (get_or rs p none).cookie; time = t }

  changed : records_in (set rs p timed) ≡ with_time c t (records_in rs)
  unfolding timed
  changed =
      let r : Record = record { cookie = c; time = t } in
      set-in rs p timed
      ∙ ap (λ (d : ℕ). set (records_in rs) p (record { cookie = d; time = t })) its-cookie
      ∙ ap (λ (l : List Record). set l p r) parted.whole
      ∙ set_at parted.before parted.found parted.after r p at_p
      ∙ sym (parted.changed t)

  pub report-found : (w : Bool) → w ≡ wrong_records (records_in rs) → settled rs p (reported_one w (get_or rs p none) t) ≡ report_records (records_in rs) c t
  unfolding timed
  report-found w ew = rw ew (go (wrong_records (records_in rs) || eqb t 0) (eqb (get_or rs p none).cookie.0 0) (eqb (get_or rs p none).time 0) refl refl refl)
    where
      sound : wrong_records (records_in rs) || eqb t 0 ≡ false → Sound (records_in rs)
      sound h = right-sound (records_in rs) (or-none (wrong_records (records_in rs)) (eqb t 0) h).0

      in_row : wrong_records (records_in rs) || eqb t 0 ≡ false → eqb (get_or rs p none).cookie.0 0 ≡ false → held c (used_of (records_in rs)) ≡ true
      in_row h z = held-row c (records_in rs) (sound h) (λ e. eqb-false (get_or rs p none).cookie.0 0 z (its-cookie ∙ e)) ∙ is_held

      go : (six zero-cookie no-time : Bool) → wrong_records (records_in rs) || eqb t 0 ≡ six → eqb (get_or rs p none).cookie.0 0 ≡ zero-cookie → eqb (get_or rs p none).time 0 ≡ no-time
          → settled rs p (cond six (Err 6) (cond (zero-cookie || not no-time) (Err 12) (Ok timed))) ≡ report_records (records_in rs) c t
      go true z u h ez eu = report-six (records_in rs) c t h
      go false true u h ez eu =
          let e : c ≡ 0 = sym its-cookie ∙ eqb-true (get_or rs p none).cookie.0 0 ez in
          report-twelve (records_in rs) c t h (ap (λ (d : ℕ). held d (used_of (records_in rs))) e ∙ (sound h).used)
      go false false false h ez eu = report-again (records_in rs) c t h (in_row h ez) (rw (time-row c (records_in rs) (sound h), its-time) eu)
      go false false true h ez eu = ap (λ (l : List Record). (0, l)) changed ∙ report-zero (records_in rs) c t h (in_row h ez) (rw (time-row c (records_in rs) (sound h), its-time) eu)
