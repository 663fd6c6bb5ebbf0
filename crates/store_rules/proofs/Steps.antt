-- Each change of a store's octets leaves a store, of the changed row. Assumes nothing.
use mathlib.Core.Path.{◌≡◌}
use mathlib.Core.Bool.{true, false}
use mathlib.Core.List.{List}
use Prim.Native.Nat.{ℕ, ◌+◌, ◌<◌, ◌≤◌, ◌^◌}
use native.Mathlib.Omega.{arith}
use lib.ListN.{length}
use Rattle.octets.specs.Number.{put_at}
use Rattle.store_rules.specs.Row.{Record, held, without, with_time, joined}
use Rattle.store_rules.specs.Place.{place_of, removed, joined_octets}
use Rattle.store_rules.proofs.Stores.{Stores, store-written}
use Rattle.store_rules.proofs.Changed.{place-removed, place-reported, place-joined}
use Rattle.store_rules.proofs.Kept.{length_without, sound-without, length-reported, sound-reported}
use Rattle.store_rules.proofs.Joins.{length-joined, sound-joined}

module _ {s : List ℕ} {n : ℕ} {row : List Record} (w : Stores s n row) (c : ℕ) where
  -- a record left
  pub stores-removed : held c row ≡ true → Stores (removed s (place_of s c)) n (without c row)
  stores-removed h =
      let l : length (without c row) ≤ n = omega (arith, length_without c row, w.within) in
      rw (place-removed w c h) (store-written n (without c row) (sound-without c row w.sound) l w.low w.high)

  -- a time was reported
  pub stores-reported : (t : ℕ) → t < 2 ^ 64 → held c row ≡ true → Stores (put_at s (place_of s c + 8) 8 t) n (with_time c t row)
  stores-reported t k h =
      let l : length (with_time c t row) ≤ n = omega (arith, length-reported c t row, w.within) in
      rw (place-reported w c t h) (store-written n (with_time c t row) (sound-reported c t row k w.sound) l w.low w.high)

  -- a fresh cookie joined
  pub stores-joined : (c ≡ 0 → ⊥) → c < 2 ^ 64 → held c row ≡ false → Stores (joined_octets s c) n (joined n c row)
  stores-joined z k h =
      let l = length-joined n c row w.low w.within in
      rw (place-joined w c) (store-written n (joined n c row) (sound-joined n c row z k h w.sound) l w.low w.high)
