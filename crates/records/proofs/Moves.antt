-- Records that move up or are cleared, one by one. Assumes nothing.
use mathlib.Core.Path.{◌≡◌, refl, sym, ap, ◌∙◌}
use mathlib.Core.Bool.{true, false}
use mathlib.Core.List.{List, [], ◌∷◌, ◌++◌, append-nil, append_assoc}
use Prim.Native.Nat.{ℕ, zero, suc, ◌+◌, ◌-◌, ◌<◌, ◌≤◌}
use native.Mathlib.Omega.{arith}
use lib.ListN.{length, get_or, set, take, drop, replicate, length-append, length-take, length-drop, drop_of_length-le}
use Rattle.std.proofs.lemmas.List.{map-append, take-map, drop-map}
use lib.Seq.{take_all, set_at, drop-append-le, drop-cons, length-take-le}
use Rattle.std.specs.List.{copy_within}
use Rattle.store_rules.specs.Row.{Record}
use Rattle.records.specs.Records.{record_of, records_in, unused_record, wrong_count, clear_records, leave_records}
use Rattle.records.specs.declared.Record.{Record as Slot}
use Rattle.records.proofs.Slots.{none, length-in}

-- ---- a record leaves

-- as many records stay
pub length-leave : (rs : List Record) (at : ℕ) → length (leave_records rs at) ≡ length rs
unfolding leave_records
length-leave rs at =
    let ps = rs ++ (unused_record ∷ []) in
    length-append (take at rs) (drop (at + 1) ps) ∙ omega (arith, length-take at rs, length-drop (at + 1) ps, length-append rs (unused_record ∷ []))

-- past the end none leaves
pub leave-past : (rs : List Record) (at : ℕ) → length rs ≤ at → leave_records rs at ≡ rs
unfolding leave_records
leave-past rs at h =
    let l : length (rs ++ (unused_record ∷ [])) ≤ at + 1 = omega (arith, length-append rs (unused_record ∷ [])) in
    rw (take_all at rs h, drop_of_length-le (rs ++ (unused_record ∷ [])) {i = at + 1} l) (append-nil rs)

-- those after it have moved up by one, and the last is unused
pub leave-moved : (rs l : List Slot) (at : ℕ) → at < length rs → l ≡ copy_within rs (at + 1) (length rs) at → records_in (set l (length rs - 1) none) ≡ leave_records (records_in rs) at
unfolding leave_records
leave-moved rs l at h e =
    ap records_in stored
    ∙ map-append record_of (take at rs) (drop (at + 1) (rs ++ (none ∷ [])))
    ∙ rw (take-map record_of at rs, ← map-append record_of rs (none ∷ []), drop-map record_of (at + 1) (rs ++ (none ∷ [])))
  where
    n : ℕ
    n = length rs

    kept : List Slot
    kept = take at rs ++ drop (at + 1) rs

    last : Slot
    last = get_or rs (n - 1) none

    -- the last one stands twice
    moved : l ≡ kept ++ (last ∷ [])
    moved =
        let t : take (n - (at + 1)) (drop (at + 1) rs) ≡ drop (at + 1) rs = take_all (n - (at + 1)) (drop (at + 1) rs) (omega (arith, length-drop (at + 1) rs)) in
        let i : at + (n - (at + 1)) ≡ n - 1 = omega (arith, h) in
        let m : suc (n - 1) ≡ n = omega (arith, h) in
        let d : drop (n - 1) rs ≡ last ∷ [] = drop-cons rs (n - 1) none (omega (arith, h)) ∙ ap (λ (l : List Slot). last ∷ l) (rw m (drop_of_length-le rs {i = n} (omega arith))) in
        e ∙ rw (t, i, d)

    stored : set l (n - 1) none ≡ take at rs ++ drop (at + 1) (rs ++ (none ∷ []))
    stored =
        let k : length kept ≡ n - 1 = length-append (take at rs) (drop (at + 1) rs) ∙ omega (arith, length-take-le at rs (omega (arith, h)), length-drop (at + 1) rs, h) in
        ap (λ (l : List Slot). set l (n - 1) none) moved
        ∙ set_at kept last [] none (n - 1) k
        ∙ append_assoc (take at rs) (drop (at + 1) rs) (none ∷ [])
        ∙ ap (λ (l : List Slot). take at rs ++ l) (sym (drop-append-le (at + 1) rs (none ∷ []) (omega (arith, h))))

-- ---- every record is cleared

unused-in : (n : ℕ) → records_in (replicate n none) ≡ replicate n unused_record
unused-in zero = refl
unused-in (suc n) = ap (λ (l : List Record). unused_record ∷ l) (unused-in n)

pub clear-done : (rs l : List Slot) → wrong_count (length rs) ≡ false → l ≡ replicate (length rs) none → (0, records_in l) ≡ clear_records (records_in rs)
unfolding clear_records
clear-done rs l h e = rw (length-in rs, h, e) (ap (λ (l : List Record). (0, l)) (unused-in (length rs)))

-- not of a row of the wrong size
pub clear-refused : (rs : List Slot) → wrong_count (length rs) ≡ true → (6, records_in rs) ≡ clear_records (records_in rs)
unfolding clear_records
clear-refused rs h = rw (length-in rs, h)
