-- A store's octets and its row, R-2, both ways.
use Rattle.std.specs.Prelude.{◌≡◌, false, List, [], ◌∷◌, ℕ, ◌^◌, ◌<◌, ◌≤◌, length}
use Rattle.octets.specs.Number.{Octets}
use Rattle.store_rules.specs.Row.{Record, held, row_of, size_of, store_octets, wrong_store}

-- a record that stands before later ones
pub record SoundRecord (r : Record) (later : List Record) : Type 0 where
  pub used : r.cookie ≡ 0 → ⊥
  pub cookie : r.cookie < 2 ^ 64
  pub time : r.time < 2 ^ 64
  pub once : held r.cookie later ≡ false

-- each cookie is used, fits its octets, and stands once
abbrev pub SoundRow : List Record → Type 0
SoundRow [] = Unit {0}
SoundRow (r ∷ row) = SoundRecord r row × SoundRow row

-- a store to which neither N-10 nor N-14 applies is the octets of its row, which is sound
abbrev pub StoreRead : Type 0
StoreRead = (s : List ℕ) → Octets s → wrong_store s ≡ false → (store_octets (size_of s) (row_of s) ≡ s) × SoundRow (row_of s)

-- the octets of a sound row are such a store, of that size and with that row
abbrev pub StoreWritten : Type 0
StoreWritten = (n : ℕ) (row : List Record) → SoundRow row → length row ≤ n → 1 ≤ n → n ≤ 64
    → (wrong_store (store_octets n row) ≡ false) × (size_of (store_octets n row) ≡ n) × (row_of (store_octets n row) ≡ row)
