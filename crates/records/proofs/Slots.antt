-- A slice's records one by one, and as the row's: what is read and what is stored is the same in both. Assumes nothing.
use mathlib.Core.Path.{◌≡◌, refl, sym, ap, ◌∙◌}
use mathlib.Core.Bool.{Bool, true, false, cond, not}
use mathlib.Core.List.{List, [], ◌∷◌, map}
use Prim.Native.Nat.{ℕ, zero, suc, ◌+◌, ◌<◌, ◌≤◌}
use native.Mathlib.Nat.{add-zero}
use native.Mathlib.Numerals.{add-one}
use native.Mathlib.Omega.{arith}
use borrow.Author.Tests.{ltb-false}
use lib.Dec.{eqb, ltb}
use lib.ListN.{length, get_or, set, drop, length-map, get_or-map, drop_of_length-le}
use lib.Seq.{drop-cons}
use Rattle.std.specs.Prelude.{Option, Some, None}
use Rattle.std.specs.List.{position_or_len, position, drop-map}
use Rattle.std.specs.Option.{unwrap_or}
use Rattle.std.proofs.lemmas.List.Recursion.{is_position_or_len}
use Rattle.std.proofs.lemmas.List.Sums.{prefix_len-le-length}
use Rattle.store_rules.specs.Row.{Record}
use Rattle.store_rules.specs.Place.{index_of}
use Rattle.records.specs.Records.{record_of, records_in, unused_record, OneToOne, place_from}
use Rattle.records.specs.declared.Record.{Record as Slot}

-- an unused record of a slice
abbrev pub none : Slot
none = record { cookie = record { 0 = 0 }; time = 0 }

-- ---- the conversion is one to one

slot_of : Record → Slot
slot_of r = record { cookie = record { 0 = r.cookie }; time = r.time }

there_and_back : (rs : List Slot) → map slot_of (records_in rs) ≡ rs
unfolding slot_of
there_and_back [] = refl
there_and_back (r ∷ rs) = ap (λ (l : List Slot). r ∷ l) (there_and_back rs)

pub records-one : OneToOne
records-one rs ss e = sym (there_and_back rs) ∙ ap (map slot_of) e ∙ there_and_back ss

-- ---- one record

pub length-in : (rs : List Slot) → length (records_in rs) ≡ length rs
length-in rs = length-map rs record_of

pub get_in : (rs : List Slot) (i : ℕ) → get_or (records_in rs) i unused_record ≡ record_of (get_or rs i none)
get_in rs i = get_or-map record_of rs i none

pub set-in : (rs : List Slot) (i : ℕ) (r : Slot) → records_in (set rs i r) ≡ set (records_in rs) i (record_of r)
set-in [] i r = refl
set-in (x ∷ rs) zero r = refl
set-in (x ∷ rs) (suc i) r = ap (λ (l : List Record). record_of x ∷ l) (set-in rs i r)

-- the records from a place on: one, and the rest
pub next-in : (rs : List Record) (i : ℕ) → i < length rs → drop i rs ≡ get_or rs i unused_record ∷ drop (i + 1) rs
next-in rs i h = rw (add-one i) (drop-cons rs i unused_record h)

-- ---- the search for a cookie

-- the test of a slice's record
abbrev pub has_cookie : ℕ → Slot → Bool
has_cookie c r = eqb r.cookie.0 c

-- where the first record with a cookie stands, in the slice
index-in : (c : ℕ) (rs : List Slot) → index_of c (records_in rs) ≡ position_or_len (has_cookie c) rs
unfolding index_of
index-in c rs = is_position_or_len (λ l. index_of c (records_in l)) (has_cookie c) refl (λ x xs. refl) rs

module _ (rs : List Slot) (c i : ℕ) where
  -- what is passed before it, from a place on
  pub place_after : (found : Option ℕ) (passed : ℕ) → found ≡ position (has_cookie c) (drop i rs) → passed ≡ unwrap_or found (length (drop i rs))
      → i + passed ≡ place_from (records_in rs) c i
  place_after found passed e u =
      ap (λ (n : ℕ). i + n) (u ∙ ap (λ (o : Option ℕ). unwrap_or o (length (drop i rs))) e ∙ go (ltb n l) refl ∙ sym (index-in c (drop i rs)) ∙ ap (index_of c) (sym (drop-map record_of i rs)))
    where
      l : ℕ
      l = length (drop i rs)

      n : ℕ
      n = position_or_len (has_cookie c) (drop i rs)

      go : (b : Bool) → ltb n l ≡ b → unwrap_or (cond b (Some n) None) l ≡ n
      go true q = refl
      go false q = let m = ltb-false n l q in omega (arith, prefix_len-le-length (λ r. not (has_cookie c r)) (drop i rs))

  -- none is left to look at
  pub place_end : length rs ≤ i → place_from (records_in rs) c i ≡ i
  unfolding index_of
  place_end h =
      let l : length (records_in rs) ≤ i = rw (length-in rs) h in
      rw (drop_of_length-le (records_in rs) {i = i} l) (add-zero i)
