-- What joining comes to, by the place of the first record with cookie 0. Assumes nothing.
use mathlib.Core.Path.{◌≡◌, refl, sym, ap, ◌∙◌}
use mathlib.Core.Bool.{Bool, true, false, cond}
use mathlib.Core.List.{List, [], ◌∷◌}
use Prim.Native.Nat.{ℕ, suc, ◌+◌, ◌-◌, ◌<◌}
use native.Mathlib.Nat.{zero-add}
use native.Mathlib.Omega.{arith}
use lib.Dec.{eqb, ltb}
use lib.ListN.{length, get_or, set}
use lib.Seq.{set_out}
use Rattle.store_rules.specs.Row.{Record, held}
use Rattle.store_rules.specs.Place.{index_of}
use Rattle.octets.proofs.Tests.{or-none}
use Rattle.store_rules.proofs.Rows.{held-index, index-past}
use Rattle.records.specs.Records.{records_in, unused_record, time_at, leave_records, with_cookie_at_free, join_records, place_from}
use Rattle.records.specs.declared.Record.{Record as Slot}
use Rattle.header.specs.declared.ServerCookie.{ServerCookie}
use Rattle.records.proofs.Slots.{none, get_in, set-in}
use Rattle.records.proofs.Moves.{length-leave}

-- the record at a place with a cookie
abbrev pub with_cookie : List Record → ℕ → ℕ → List Record
with_cookie rs i c = set rs i (record { cookie = c; time = time_at rs i })

-- the first record with cookie 0 is the one that gets the cookie
with-cookie-set : (c : ℕ) (rs : List Record) → with_cookie_at_free c rs ≡ with_cookie rs (index_of 0 rs) c
unfolding with_cookie_at_free index_of
with-cookie-set c [] = refl
with-cookie-set c (r ∷ rs) = go (eqb r.cookie 0) (with-cookie-set c rs)
  where
    go : (b : Bool) → with_cookie_at_free c rs ≡ with_cookie rs (index_of 0 rs) c → cond b (record { cookie = c; time = r.time } ∷ rs) (r ∷ with_cookie_at_free c rs) ≡ with_cookie (r ∷ rs) (cond b 0 (1 + index_of 0 rs)) c
    go true e = refl
    go false e = let o : 1 + index_of 0 rs ≡ suc (index_of 0 rs) = omega arith in rw o (ap (λ (l : List Record). r ∷ l) e)

-- where no record had cookie 0, the last has once the first left
pub last-free : (rs : List Record) → held 0 rs ≡ false → 0 < length rs → index_of 0 (leave_records rs 0) ≡ length rs - 1
unfolding leave_records held index_of
last-free [] h l = absurd (omega (arith, l))
last-free (r ∷ rs) h l = index-past 0 rs (unused_record ∷ []) (or-none (eqb r.cookie 0) (held 0 rs) h).1 ∙ omega arith

module _ (rs : List Record) (c free : ℕ) (e : free ≡ place_from rs 0 0) where
  place_is : index_of 0 rs ≡ free
  place_is = sym (e ∙ zero-add (index_of 0 rs))

  -- whether a record had cookie 0
  had : (b : Bool) → ltb free (length rs) ≡ b → held 0 rs ≡ b
  had b q = held-index 0 rs ∙ rw place_is q

  -- the first record with cookie 0 gets the cookie
  pub join_free : ltb free (length rs) ≡ true → join_records rs c ≡ with_cookie rs free c
  unfolding join_records
  join_free q = rw (had true q) (with-cookie-set c rs ∙ ap (λ (i : ℕ). with_cookie rs i c) place_is)

  -- or the first record leaves for it
  pub join-full : ltb free (length rs) ≡ false → join_records rs c ≡ with_cookie (leave_records rs 0) (index_of 0 (leave_records rs 0)) c
  unfolding join_records
  join-full q = rw (had false q) (with-cookie-set c (leave_records rs 0))

  -- which is the last
  pub join-last : ltb free (length rs) ≡ false → 0 < length rs → join_records rs c ≡ with_cookie (leave_records rs 0) (length rs - 1) c
  join-last q l = join-full q ∙ ap (λ (i : ℕ). with_cookie (leave_records rs 0) i c) (last-free rs (had false q) l)

  -- without records there is no place
  pub join-none : ltb free (length rs) ≡ false → length rs ≡ 0 → join_records rs c ≡ leave_records rs 0
  join-none q l = join-full q ∙ set_out (leave_records rs 0) (index_of 0 (leave_records rs 0)) _ (omega (arith, length-leave rs 0))

-- a slice's record gets a cookie
pub cookie-in : (rs : List Slot) (i : ℕ) (c : ServerCookie) → records_in (set rs i (record { cookie = c; time = (get_or rs i none).time })) ≡ with_cookie (records_in rs) i c.0
cookie-in rs i c =
    set-in rs i (record { cookie = c; time = (get_or rs i none).time })
    ∙ ap (λ (r : Record). set (records_in rs) i (record { cookie = c.0; time = r.time })) (sym (get_in rs i))
