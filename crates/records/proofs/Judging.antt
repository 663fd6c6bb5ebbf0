-- A pass over the records that looks for what is wrong: what is left to say once some are seen. Assumes nothing.
use mathlib.Core.Path.{◌≡◌, refl, sym, ◌∙◌}
use mathlib.Core.Bool.{Bool, true, false, cond, not, ◌&&◌, ◌||◌, or-false}
use mathlib.Core.List.{List, [], ◌∷◌}
use Prim.Native.Nat.{ℕ, ◌+◌, ◌<◌, ◌≤◌}
use native.Mathlib.Omega.{arith}
use borrow.Author.Tests.{ltb-true, ltb-false, lt-ltb, le-ltb}
use lib.Dec.{eqb, ltb}
use lib.ListN.{length, get_or, drop, length-drop, drop_of_length-le}
use Rattle.store_rules.specs.Row.{Record, held, all_unused, sound_records}
use Rattle.store_rules.specs.Place.{index_of}
use Rattle.store_rules.proofs.Rows.{held-index}
use Rattle.records.specs.Records.{record_of, records_in, wrong_count, wrong_records, place_from}
use Rattle.records.specs.Value.{seen_after}
use Rattle.records.specs.declared.Record.{Record as Slot}
use Rattle.records.specs.declared.value.Seen.{Seen}
use Rattle.records.proofs.Slots.{none, length-in, get_in, next-in}

-- what is left to say of the records that are not seen yet
abbrev pub verdict : Seen → List Record → Bool
verdict s rs = s.wrong || cond s.gap (not (all_unused rs)) (not (sound_records rs))

-- a wrong number is enough
pub wrong-by-count : (rs : List Record) → wrong_count (length rs) ≡ true → wrong_records rs ≡ true
unfolding wrong_records
wrong-by-count rs h = rw h

-- else the records decide, of which none is seen yet
pub verdict-first : (rs : List Record) → wrong_count (length rs) ≡ false → verdict (record { wrong = false; gap = false }) rs ≡ wrong_records rs
unfolding wrong_records
verdict-first rs h = sym (rw h)

-- all are
pub verdict-last : (s : Seen) → verdict s [] ≡ s.wrong
unfolding all_unused sound_records
verdict-last s = go s.gap
  where
    go : (g : Bool) → s.wrong || cond g false false ≡ s.wrong
    go true = or-false s.wrong
    go false = or-false s.wrong

-- one more
verdict-more : (s : Seen) (r : Slot) (rs : List Record) (again : Bool) → again ≡ held r.cookie.0 rs → verdict s (record_of r ∷ rs) ≡ verdict (seen_after s r again) rs
unfolding all_unused sound_records
verdict-more s r rs again e = rw (← e) (go s.wrong s.gap (eqb r.cookie.0 0) (eqb r.time 0) again)
  where
    a : Bool
    a = all_unused rs

    g : Bool
    g = sound_records rs

    go : (w gap z t h : Bool) → w || cond gap (not ((z && t) && a)) (not (cond (z && t) a (not z && not h && g)))
        ≡ verdict (cond (z && t) (record { wrong = w; gap = true }) (record { wrong = w || gap || z || h; gap = gap })) rs
    go w true true true h = refl
    go w false true true h = refl
    go true gap true false h = refl
    go false true true false h = refl
    go false false true false h = refl
    go true gap false t h = refl
    go false true false t h = refl
    go false false false t true = refl
    go false false false t false = refl

-- a cookie is held from a place on where it is found before the end
held-from : (rs : List Record) (c i : ℕ) → i ≤ length rs → ltb (place_from rs c i) (length rs) ≡ held c (drop i rs)
held-from rs c i h = sym (held-index c (drop i rs) ∙ go (ltb (index_of c (drop i rs)) (length (drop i rs))) refl)
  where
    go : (b : Bool) → ltb (index_of c (drop i rs)) (length (drop i rs)) ≡ b → b ≡ ltb (place_from rs c i) (length rs)
    go true e = let l = ltb-true (index_of c (drop i rs)) (length (drop i rs)) e in sym (lt-ltb (place_from rs c i) (length rs) (omega (arith, length-drop i rs)))
    go false e = let l = ltb-false (index_of c (drop i rs)) (length (drop i rs)) e in sym (le-ltb (place_from rs c i) (length rs) (omega (arith, length-drop i rs)))

-- the record at a place is seen, with the place p where its cookie is found after it
pub verdict-next : (s : Seen) (rs : List Slot) (i p : ℕ) → i < length rs → p ≡ place_from (records_in rs) (get_or rs i none).cookie.0 (i + 1)
    → verdict s (drop i (records_in rs)) ≡ verdict (seen_after s (get_or rs i none) (ltb p (length rs))) (drop (i + 1) (records_in rs))
verdict-next s rs i p h e =
    let l : i < length (records_in rs) = rw (length-in rs) h in
    let again : ltb p (length rs) ≡ held (get_or rs i none).cookie.0 (drop (i + 1) (records_in rs)) = rw (e, ← length-in rs) (held-from (records_in rs) (get_or rs i none).cookie.0 (i + 1) (omega arith)) in
    rw (next-in (records_in rs) i l, get_in rs i) (verdict-more s (get_or rs i none) (drop (i + 1) (records_in rs)) (ltb p (length rs)) again)

-- past the end all are seen
pub verdict-end : (s : Seen) (rs : List Slot) (i : ℕ) → length rs ≤ i → verdict s (drop i (records_in rs)) ≡ s.wrong
verdict-end s rs i h = rw (drop_of_length-le (records_in rs) {i = i} (rw (length-in rs) h)) (verdict-last s)
