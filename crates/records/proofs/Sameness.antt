-- Each call on records is the same call on their octets. Assumes nothing.
use mathlib.Core.Path.{◌≡◌, refl, sym, ap, ◌∙◌}
use mathlib.Core.Bool.{Bool, true, false, cond, not, ◌||◌, true≢false}
use mathlib.Core.List.{List, [], ◌∷◌, ◌++◌}
use Prim.Native.Nat.{ℕ, suc, ◌+◌, ◌-◌, ◌*◌, ◌<◌, ◌≤◌}
use native.Mathlib.Nat.{zero-add, sub-zero}
use native.Mathlib.Numerals.{add-one}
use native.Mathlib.Omega.{arith}
use borrow.Author.Tests.{eqb-true, ltb-true, ltb-false, lt-ltb}
use lib.Dec.{eqb, ltb}
use lib.ListN.{length, get_or, take, drop, replicate}
use lib.Seq.{split_at, drop-append-le, length-take-le}
use Rattle.octets.specs.Number.{put_at}
use Rattle.store_rules.specs.Row.{Record, held, time_of, with_time, used_of, row_octets, store_octets, records_from, size_of, cleared, reporting}
use Rattle.store_rules.specs.Place.{index_of, place_of, removed, joined_octets}
use Rattle.store_rules.proofs.Rows.{unused_row, held-index}
use Rattle.store_rules.proofs.Written.{length-row, store-row}
use Rattle.store_rules.proofs.Stores.{store-read}
use Rattle.store_rules.proofs.Places.{remove-record}
use Rattle.store_rules.proofs.Kept.{length-reported}
use Rattle.store_rules.proofs.Changed.{join_free as octets-free, join-full as octets-full}
use Rattle.records.specs.Records.{unused_record, Fit, wrong_count, wrong_records, clear_records, report_refusal, report_records, leave_records, with_cookie_at_free, join_records}
use Rattle.records.proofs.Moves.{length-leave, leave-past}
use Rattle.records.proofs.Joining.{with_cookie, join_free, join-full, last-free}
use Rattle.records.proofs.Encoding.{size_is, count-is, row-octets, read_back, row_is, wrong-is, place_is, put-at}

-- what a call on records leaves, as octets
abbrev pub spelled : ℕ × List Record → ℕ × List ℕ
spelled w = (w.0, row_octets w.1)

-- ---- clearing

pub clear-same : (rs : List Record) → cleared (row_octets rs) ≡ spelled (clear_records rs)
unfolding cleared clear_records
clear-same rs = rw (count-is rs, size_is rs) (go (wrong_count (length rs)))
  where
    go : (b : Bool) → cond b (6, row_octets rs) (0, store_octets (length rs) []) ≡ spelled (cond b (6, rs) (0, replicate (length rs) unused_record))
    go true = refl
    go false = ap (λ (l : List ℕ). (0, l)) (store-row (length rs) [] ∙ rw sub-zero)

-- ---- a report

-- a report changes the first of two rows where that holds the cookie
reported-append : (c t : ℕ) (a b : List Record) → held c a ≡ true → with_time c t (a ++ b) ≡ with_time c t a ++ b
unfolding held with_time
reported-append c t [] b h = absurd (true≢false (sym h))
reported-append c t (r ∷ a) b h = go (eqb r.cookie c) (reported-append c t a b) h
  where
    go : (x : Bool) → (held c a ≡ true → with_time c t (a ++ b) ≡ with_time c t a ++ b) → x || held c a ≡ true
        → cond x (record { cookie = c; time = t } ∷ (a ++ b)) (r ∷ with_time c t (a ++ b)) ≡ cond x (record { cookie = c; time = t } ∷ a) (r ∷ with_time c t a) ++ b
    go true f e = refl
    go false f e = ap (λ (l : List Record). r ∷ l) (f e)

-- ---- a record leaves

module _ (rs : List Record) (at : ℕ) where
  leave-inside : at < length rs → removed (row_octets rs) (16 * at) ≡ row_octets (leave_records rs at)
  unfolding leave_records
  leave-inside l =
      let a = take at rs in
      let r = get_or rs at unused_record in
      let b = drop (suc at) rs in
      let k : length a ≡ at = length-take-le at rs (omega arith) in
      let d : drop (at + 1) (rs ++ (unused_record ∷ [])) ≡ b ++ (unused_record ∷ []) = rw (add-one at) (drop-append-le (suc at) rs (unused_record ∷ []) l) in
      ap (λ (l : List Record). removed (row_octets l) (16 * at)) (split_at rs at unused_record l)
      ∙ ap (λ (j : ℕ). removed (row_octets (a ++ (r ∷ b))) (16 * j)) (sym k)
      ∙ remove-record a r b
      ∙ ap (λ (l : List Record). row_octets (a ++ l)) (sym d)

  leave-beyond : length rs ≤ at → removed (row_octets rs) (16 * at) ≡ row_octets (leave_records rs at)
  unfolding removed
  leave-beyond l = rw (lt-ltb (length (row_octets rs)) (16 * at + 16) (omega (arith, length-row rs)), leave-past rs at l)

  pub leave_same : removed (row_octets rs) (16 * at) ≡ row_octets (leave_records rs at)
  leave_same = go (ltb at (length rs)) refl
    where
      go : (b : Bool) → ltb at (length rs) ≡ b → removed (row_octets rs) (16 * at) ≡ row_octets (leave_records rs at)
      go true q = leave-inside (ltb-true at (length rs) q)
      go false q = leave-beyond (ltb-false at (length rs) q)

-- ---- a cookie joins

-- where no record has cookie 0
join_last : (rs : List Record) (c : ℕ) → 0 < length rs → ltb (index_of 0 rs) (length rs) ≡ false → put_at (removed (row_octets rs) 0) (length (row_octets rs) - 16) 8 c ≡ row_octets (join_records rs c)
join_last rs c l q =
    let k : length (row_octets rs) - 16 ≡ 16 * (length rs - 1) = omega (arith, length-row rs) in
    rw (k, leave_same rs 0)
    (put-at (leave_records rs 0) (length rs - 1) c (omega (arith, length-leave rs 0))
    ∙ ap (λ (i : ℕ). row_octets (with_cookie (leave_records rs 0) i c)) (sym (last-free rs (held-index 0 rs ∙ q) l))
    ∙ ap row_octets (sym (join-full rs c (index_of 0 rs) (sym (zero-add (index_of 0 rs))) q)))

join-some : (rs : List Record) → Fit rs → (c : ℕ) → 0 < length rs → joined_octets (row_octets rs) c ≡ row_octets (join_records rs c)
join-some rs f c h = go (ltb (index_of 0 rs) (length rs)) refl
  where
    go : (b : Bool) → ltb (index_of 0 rs) (length rs) ≡ b → joined_octets (row_octets rs) c ≡ row_octets (join_records rs c)
    go true q =
        let l = ltb-true (index_of 0 rs) (length rs) q in
        sym (octets-free (row_octets rs) c (16 * index_of 0 rs) (sym (place_is rs f 0)) (omega (arith, length-row rs)))
        ∙ put-at rs (index_of 0 rs) c l
        ∙ ap row_octets (sym (join_free rs c (index_of 0 rs) (sym (zero-add (index_of 0 rs))) q))
    go false q =
        let l = ltb-false (index_of 0 rs) (length rs) q in
        sym (octets-full (row_octets rs) c (16 * index_of 0 rs) (sym (place_is rs f 0)) (omega (arith, length-row rs))) ∙ join_last rs c h q

pub join-same : (rs : List Record) → Fit rs → (c : ℕ) → joined_octets (row_octets rs) c ≡ row_octets (join_records rs c)
unfolding joined_octets place_of index_of removed row_octets records_from join_records leave_records with_cookie_at_free held
join-same [] f c = refl
join-same (r ∷ rs) f c = join-some (r ∷ rs) f c (omega arith)

-- ---- a report

module _ (rs : List Record) (f : Fit rs) (c t : ℕ) where
  -- where nothing refuses it, the row's octets are those of the records
  pub report-octets : wrong_records rs ≡ false → held c (used_of rs) ≡ true → store_octets (size_of (row_octets rs)) (with_time c t (used_of rs)) ≡ row_octets (with_time c t rs)
  report-octets h k =
      let row = used_of rs in
      let n = length rs in
      let w = store-read (row_octets rs) (row-octets rs) (wrong-is rs f ∙ h) in
      let parts : rs ≡ row ++ unused_row (n - length row) = sym (read_back rs f) ∙ w.records ∙ rw (row_is rs f, size_is rs) in
      rw (size_is rs)
      (store-row n (with_time c t row)
      ∙ ap (λ (m : ℕ). row_octets (with_time c t row ++ unused_row (n - m))) (length-reported c t row)
      ∙ ap row_octets (sym (reported-append c t row (unused_row (n - length row)) k) ∙ ap (with_time c t) (sym parts)))

  -- what is not refused
  pub unrefused : report_refusal rs c t ≡ 0 → (wrong_records rs ≡ false) × (held c (used_of rs) ≡ true)
  unrefused = go (wrong_records rs) (eqb t 0) (held c (used_of rs)) (eqb (time_of c (used_of rs)) 0)
    where
      go : (w z h u : Bool) → ◌≡◌ {A = ℕ} (cond (w || z) 6 (cond (not h || not u) 12 0)) 0 → (w ≡ false) × (h ≡ true)
      go true z h u e = absurd (omega (arith, e))
      go false true h u e = absurd (omega (arith, e))
      go false false true u e = (refl, refl)
      go false false false u e = absurd (omega (arith, e))

  pub report-same : reporting (row_octets rs) c t ≡ spelled (report_records rs c t)
  unfolding reporting report_records
  report-same = rw (wrong-is rs f, row_is rs f) (go (eqb (report_refusal rs c t) 0) refl)
    where
      go : (b : Bool) → eqb (report_refusal rs c t) 0 ≡ b
          → cond b (0, store_octets (size_of (row_octets rs)) (with_time c t (used_of rs))) (report_refusal rs c t, row_octets rs) ≡ spelled (cond b (0, with_time c t rs) (report_refusal rs c t, rs))
      go true q = let p = unrefused (eqb-true (report_refusal rs c t) 0 q) in ap (λ (l : List ℕ). (0, l)) (report-octets p.0 p.1)
      go false q = refl
