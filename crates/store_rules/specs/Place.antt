-- The same row by its places in the store's octets, on any octets lent.
use Rattle.std.specs.Prelude.{cond, List, [], ◌∷◌, ◌++◌, ℕ, ◌+◌, ◌-◌, ◌*◌, eqb, ltb, length, take, drop, replicate}
use Rattle.octets.specs.Number.{put_at}
use Rattle.store_rules.specs.Row.{Record, records_of}

-- how many records stand before the first with a cookie; all of them if none has it
unfoldable pub index_of : ℕ → List Record → ℕ
index_of c [] = 0
index_of c (r ∷ rs) = cond (eqb r.cookie c) 0 (1 + index_of c rs)

-- the octet where that record stands, or the end of the records
unfoldable pub place_of : List ℕ → ℕ → ℕ
place_of s c = 16 * index_of c (records_of s)

-- the record at an octet leaves: those after it move up by one, and the last is unused
unfoldable pub removed : List ℕ → ℕ → List ℕ
removed s at = cond (ltb (length s) (at + 16)) s (take at s ++ (drop (at + 16) s ++ replicate 16 0))

-- a cookie goes to the first record with cookie 0; where there is none, the first leaves
unfoldable pub joined_octets : List ℕ → ℕ → List ℕ
joined_octets s c =
    cond (ltb (place_of s 0) (length s)) (put_at s (place_of s 0) 8 c) (put_at (removed s 0) (length s - 16) 8 c)
