-- What an answer reads of the store and leaves in it, by the row's places. Assumes nothing.
use mathlib.Core.Path.{◌≡◌, refl, sym, ◌∙◌}
use mathlib.Core.Bool.{Bool, true, false, cond, ◌||◌}
use mathlib.Core.List.{List}
use Prim.Native.Nat.{ℕ, ◌+◌}
use native.Mathlib.Omega.{arith}
use borrow.Author.Tests.{eq-eqb, ne_eqb, eqb-false}
use lib.Dec.{eqb, ltb}
use lib.ListN.{length}
use Rattle.octets.specs.Number.{Octets, get_at}
use Rattle.header.specs.declared.Header.{Header}
use Rattle.store_rules.specs.Row.{Record, held, time_of, without, store_octets, size_of, row_of, wrong_store}
use Rattle.store_rules.specs.Place.{place_of, removed, joined_octets}
use Rattle.store_rules.proofs.Rows.{time-held}
use Rattle.store_rules.proofs.Stores.{Stores, store-read, store-written}
use Rattle.store_rules.proofs.Changed.{place-held, place-time, place-removed, place-joined}
use Rattle.store_rules.proofs.Kept.{length_without, sound-without}
use Rattle.responder_rules.specs.Answer.{wants_interleaved, saved_time, row_after}

module _ (s : List ℕ) (o : Octets s) (right : wrong_store s ≡ false) where
  stored : Stores s (size_of s) (row_of s)
  stored = store-read s o right

  -- a cookie that is 0 or stands at a place
  pub fresh-wrong : (c : ℕ) → eqb c 0 || ltb (place_of s c) (length s) ≡ eqb c 0 || held c (row_of s)
  fresh-wrong c = go (eqb c 0) refl
    where
      go : (b : Bool) → eqb c 0 ≡ b → b || ltb (place_of s c) (length s) ≡ b || held c (row_of s)
      go true e = refl
      go false e = sym (place-held stored c (eqb-false c 0 e))

  -- the time at a cookie's place
  pub time-there : (c : ℕ) → get_at s (place_of s c + 8) 8 ≡ time_of c (row_of s)
  time-there c = sym (place-time stored c)

  module _ (c time : ℕ) (e : time ≡ time_of c (row_of s)) where
    abbrev left : List Record
    left = cond (eqb time 0) (row_of s) (without c (row_of s))

    -- a time of 0 was not sent: the row stays
    pub leave_none : time ≡ 0 → s ≡ store_octets (size_of s) left
    leave_none z = rw (eq-eqb time 0 z) stored.content

    -- else its record leaves
    pub leave-record : (time ≡ 0 → ⊥) → {t : List ℕ} → t ≡ removed s (place_of s c) → t ≡ store_octets (size_of s) left
    leave-record n q = q ∙ rw (ne_eqb time 0 n) (place-removed stored c (time-held c (row_of s) (λ z. n (e ∙ z))))

    -- what is left is a store again
    left-stored : Stores (store_octets (size_of s) left) (size_of s) left
    left-stored = go (eqb time 0)
      where
        go : (b : Bool) → Stores (store_octets (size_of s) (cond b (row_of s) (without c (row_of s)))) (size_of s) (cond b (row_of s) (without c (row_of s)))
        go true = store-written (size_of s) (row_of s) stored.sound stored.within stored.low stored.high
        go false =
            let most = stored.within in
            store-written (size_of s) (without c (row_of s)) (sound-without c (row_of s) stored.sound) (omega (arith, length_without c (row_of s))) stored.low stored.high

  module _ (asked : Header) (fresh_cookie time : ℕ) (e : time ≡ saved_time asked (row_of s)) where
    -- a basic request leaves the store
    pub keep-none : wants_interleaved asked ≡ false → s ≡ store_octets (size_of s) (row_after asked fresh_cookie (size_of s) (row_of s))
    keep-none b = rw b stored.content

    -- the time asked for, where the request wants an interleaved answer
    pub time-wanted : wants_interleaved asked ≡ true → time ≡ time_of asked.server_cookie.0 (row_of s)
    time-wanted b = e ∙ rw b

    -- else the fresh cookie joins what is left
    pub keep-joined : wants_interleaved asked ≡ true → {t u : List ℕ}
        → t ≡ store_octets (size_of s) (cond (eqb time 0) (row_of s) (without asked.server_cookie.0 (row_of s)))
        → u ≡ joined_octets t fresh_cookie → u ≡ store_octets (size_of s) (row_after asked fresh_cookie (size_of s) (row_of s))
    keep-joined b p q =
        q ∙ rw (p, place-joined (left-stored asked.server_cookie.0 time (time-wanted b)) fresh_cookie) (rw (← e, b))
