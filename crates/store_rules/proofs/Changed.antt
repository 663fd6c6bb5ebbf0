-- What is read in a store's octets is what its row says, and each change of the octets is the row's. Assumes nothing.
use mathlib.Core.Path.{◌≡◌, refl, sym, ap, ◌∙◌}
use mathlib.Core.Bool.{Bool, true, false, cond, or-false}
use mathlib.Core.List.{List, [], ◌∷◌, ◌++◌, append_assoc, append-nil}
use Prim.Native.Nat.{ℕ, zero, suc, ◌+◌, ◌-◌, ◌*◌, ◌/◌, ◌<◌, ◌≤◌}
use native.Mathlib.Nat.{zero-add, add-zero}
use native.Mathlib.Omega.{arith}
use borrow.Author.Tests.{ne_eqb, ltb-true, ltb-false, lt-ltb, le-ltb}
use lib.Dec.{eqb, ltb}
use lib.ListN.{length, drop, length-append, replicate-append-replicate}
use Rattle.octets.specs.Number.{get_at, put_at}
use Rattle.store_rules.specs.Row.{Record, held, time_of, with_time, without, joined, row_octets, store_octets, records_of}
use Rattle.store_rules.specs.Place.{index_of, place_of, removed, joined_octets}
use Rattle.store_rules.proofs.Rows.{SoundRow, unused_record, unused_row, Parted, part-row, held-index, index-most, held-append, index-append, index-past, time-append}
use Rattle.store_rules.proofs.Written.{store-row}
use Rattle.store_rules.proofs.Stores.{Stores, held-unused, length-padded}
use Rattle.store_rules.proofs.Places.{put-cookie, put-time, remove-record, time-read}

-- no sound row holds cookie 0
pub held-zero : (row : List Record) → SoundRow row → held 0 row ≡ false
unfolding held
held-zero [] g = refl
held-zero (r ∷ row) g = rw (ne_eqb r.cookie 0 g.0.used, held-zero row g.1)

-- unused records give no time
time-unused : (c k : ℕ) → time_of c (unused_row k) ≡ 0
unfolding time_of
time-unused c zero = refl
time-unused c (suc k) = go (eqb 0 c) (time-unused c k)
  where
    go : (b : Bool) → time_of c (unused_row k) ≡ 0 → cond b 0 (time_of c (unused_row k)) ≡ 0
    go true e = refl
    go false e = e

-- records and their octets are compared alike
pub test-16 : (i n : ℕ) → ltb i n ≡ ltb (16 * i) (16 * n)
test-16 i n = go (ltb i n) refl
  where
    go : (b : Bool) → ltb i n ≡ b → b ≡ ltb (16 * i) (16 * n)
    go true e = let l = ltb-true i n e in sym (lt-ltb (16 * i) (16 * n) (omega arith))
    go false e = let l = ltb-false i n e in sym (le-ltb (16 * i) (16 * n) (omega arith))

module _ {s : List ℕ} {n : ℕ} {row : List Record} (w : Stores s n row) where
  -- places and octets, by the records
  place-index : (c : ℕ) → place_of s c ≡ 16 * index_of c (row ++ unused_row (n - length row))
  unfolding place_of
  place-index c = ap (λ (rs : List Record). 16 * index_of c rs) w.records

  octets-row : s ≡ row_octets (row ++ unused_row (n - length row))
  octets-row = w.content ∙ store-row n row

  -- a cookie is in the row where its place is before the end
  pub place-held : (c : ℕ) → (c ≡ 0 → ⊥) → held c row ≡ ltb (place_of s c) (length s)
  place-held c h =
      let rs = row ++ unused_row (n - length row) in
      sym (held-append c row (unused_row (n - length row)) ∙ rw (held-unused c (n - length row) h) (or-false (held c row)))
      ∙ held-index c rs
      ∙ ap (ltb (index_of c rs)) (length-padded n row w.within)
      ∙ test-16 (index_of c rs) n
      ∙ sym (rw (place-index c, w.total))

  -- and no further than the end
  pub place-most : (c : ℕ) → place_of s c ≤ length s
  place-most c =
      let rs = row ++ unused_row (n - length row) in
      let t = w.total in
      omega (arith, place-index c, index-most c rs, length-padded n row w.within)

  -- its time stands there
  pub place-time : (c : ℕ) → time_of c row ≡ get_at s (place_of s c + 8) 8
  unfolding place_of
  place-time c =
      let l : 0 + 16 * (length s / 16) ≡ length s = omega (arith, w.total) in
      sym (time-append c row (unused_row (n - length row)) (time-unused c (n - length row)))
      ∙ sym (ap (time_of c) w.records)
      ∙ time-read c (length s / 16) s 0 l
      ∙ ap (λ (k : ℕ). get_at s (k + 8) 8) (zero-add (16 * index_of c (records_of s)))

  -- where a cookie of the row stands
  place-before : (c : ℕ) → held c row ≡ true → (p : Parted c row) → place_of s c ≡ 16 * length p.before
  place-before c h p = place-index c ∙ ap (λ (i : ℕ). 16 * i) (index-append c row (unused_row (n - length row)) h ∙ p.index)

  -- its octets, parted there
  octets-parted : (c : ℕ) (p : Parted c row) → s ≡ row_octets (p.before ++ (p.found ∷ (p.after ++ unused_row (n - length row))))
  octets-parted c p =
      octets-row
      ∙ ap (λ (l : List Record). row_octets (l ++ unused_row (n - length row))) p.whole
      ∙ ap row_octets (append_assoc p.before (p.found ∷ p.after) (unused_row (n - length row)))

  -- its record leaves
  pub place-removed : (c : ℕ) → held c row ≡ true → removed s (place_of s c) ≡ store_octets n (without c row)
  place-removed c h =
      let p = part-row c row h in
      let k = n - length row in
      let l : length row ≡ length p.before + suc (length p.after) = ap length p.whole ∙ length-append p.before (p.found ∷ p.after) in
      let m : n - length (p.before ++ p.after) ≡ k + 1 = omega (arith, length-append p.before p.after, w.within) in
      let u : unused_row (k + 1) ≡ unused_row k ++ (unused_record ∷ []) = sym (replicate-append-replicate k 1 unused_record) in
      rw (place-before c h p)
      (ap (λ (l : List ℕ). removed l (16 * length p.before)) (octets-parted c p)
      ∙ remove-record p.before p.found (p.after ++ unused_row k)
      ∙ ap row_octets (ap (λ (l : List Record). p.before ++ l) (append_assoc p.after (unused_row k) (unused_record ∷ [])) ∙ sym (append_assoc p.before p.after (unused_row k ++ (unused_record ∷ []))))
      ∙ sym (store-row n (without c row) ∙ rw (p.removed, m, u)))

  -- its time is reported
  pub place-reported : (c t : ℕ) → held c row ≡ true → put_at s (place_of s c + 8) 8 t ≡ store_octets n (with_time c t row)
  place-reported c t h =
      let p = part-row c row h in
      let k = n - length row in
      let r : Record = record { cookie = c; time = t } in
      let l : length row ≡ length (p.before ++ (r ∷ p.after)) = ap length p.whole ∙ length-append p.before (p.found ∷ p.after) ∙ sym (length-append p.before (r ∷ p.after)) in
      rw (place-before c h p)
      (ap (λ (l : List ℕ). put_at l (16 * length p.before + 8) 8 t) (octets-parted c p)
      ∙ put-time p.before p.found (p.after ++ unused_row k) t
      ∙ ap (λ (d : ℕ). row_octets (p.before ++ (record { cookie = d; time = t } ∷ (p.after ++ unused_row k)))) p.its-cookie
      ∙ ap row_octets (sym (append_assoc p.before (r ∷ p.after) (unused_row k)))
      ∙ sym (store-row n (with_time c t row) ∙ rw (p.changed t, ← l)))

-- ---- a fresh cookie

-- a full store is its row
store-full : (n : ℕ) (row : List Record) → n ≡ length row → store_octets n row ≡ row_octets row
store-full n row h = let e : n - length row ≡ 0 = omega arith in store-row n row ∙ rw (e, append-nil)

module _ {s : List ℕ} {n : ℕ} {row : List Record} (w : Stores s n row) (c : ℕ) where
  -- the place of the first unused record
  place-free : place_of s 0 ≡ 16 * (length row + index_of 0 (unused_row (n - length row)))
  place-free = place-index w 0 ∙ ap (λ (i : ℕ). 16 * i) (index-past 0 row (unused_row (n - length row)) (held-zero row w.sound))

  -- where there is room, it goes after the row
  joined-room : length row < n → joined_octets s c ≡ store_octets n (row ++ (record { cookie = c; time = 0 } ∷ []))
  unfolding joined_octets index_of
  joined-room h =
      let k = n - suc (length row) in
      let r : Record = record { cookie = c; time = 0 } in
      let d : n - length row ≡ suc k = omega arith in
      let a : place_of s 0 ≡ 16 * length row = place-free ∙ rw d (rw add-zero) in
      let t = lt-ltb (16 * length row) (length s) (omega (arith, w.total)) in
      let m : n - length (row ++ (r ∷ [])) ≡ k = omega (arith, length-append row (r ∷ [])) in
      let e : s ≡ row_octets (row ++ (unused_record ∷ unused_row k)) = octets-row w ∙ rw d in
      rw (a, t)
      (ap (λ (l : List ℕ). put_at l (16 * length row) 8 c) e
      ∙ put-cookie row unused_record (unused_row k) c
      ∙ ap row_octets (sym (append_assoc row (r ∷ []) (unused_row k)))
      ∙ sym (store-row n (row ++ (r ∷ [])) ∙ rw m))

-- where there is none, the first leaves
joined-full : {s : List ℕ} {n : ℕ} (row : List Record) → Stores s n row → (c : ℕ) → n ≡ length row → joined_octets s c ≡ store_octets n (drop 1 row ++ (record { cookie = c; time = 0 } ∷ []))
unfolding joined_octets index_of
joined-full [] w c h = let l = w.low in absurd (omega arith)
joined-full {s} {n} (f ∷ row) w c h =
    let r : Record = record { cookie = c; time = 0 } in
    let d : n - suc (length row) ≡ 0 = omega arith in
    let a : place_of s 0 ≡ 16 * suc (length row) = place-free w c ∙ rw d (rw add-zero) in
    let t = le-ltb (16 * suc (length row)) (length s) (omega (arith, w.total)) in
    let e : s ≡ row_octets (f ∷ row) = w.content ∙ store-full n (f ∷ row) h in
    let b : length s - 16 ≡ 16 * length row = omega (arith, w.total) in
    let m : n ≡ length (row ++ (r ∷ [])) = omega (arith, length-append row (r ∷ [])) in
    rw (a, t, b)
    (ap (λ (l : List ℕ). put_at (removed l 0) (16 * length row) 8 c) e
    ∙ ap (λ (l : List ℕ). put_at l (16 * length row) 8 c) (remove-record [] f row)
    ∙ put-cookie row unused_record [] c
    ∙ sym (store-full n (row ++ (r ∷ [])) m))

-- a fresh cookie joins the row
pub place-joined : {s : List ℕ} {n : ℕ} {row : List Record} → Stores s n row → (c : ℕ) → joined_octets s c ≡ store_octets n (joined n c row)
place-joined {s} {n} {row} w c = go (ltb (length row) n) refl
  where
    go : (b : Bool) → ltb (length row) n ≡ b → joined_octets s c ≡ store_octets n (cond b row (drop 1 row) ++ (record { cookie = c; time = 0 } ∷ []))
    go true e = joined-room w c (ltb-true (length row) n e)
    go false e = let l = ltb-false (length row) n e in let k = w.within in joined-full row w c (omega arith)

-- ---- joining, by the test of the place of the first record with cookie 0

module _ (s : List ℕ) (c p : ℕ) (e : p ≡ place_of s 0) where
  -- there is one
  pub join_free : p < length s → put_at s p 8 c ≡ joined_octets s c
  unfolding joined_octets
  join_free h = rw (← e, lt-ltb p (length s) h)

  -- there is none
  pub join-full : length s ≤ p → put_at (removed s 0) (length s - 16) 8 c ≡ joined_octets s c
  unfolding joined_octets
  join-full h = rw (← e, le-ltb p (length s) h)
