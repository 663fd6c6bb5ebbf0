-- The laws of positions and filters, B-1 to B-5.
use Rattle.std.specs.Prelude.{◌≡◌, true, false, ◌||◌, List, ◌≢◌, ℕ, ◌+◌, ◌*◌, ◌/◌, ◌%◌, ◌<◌, length, get_or}
use Rattle.octets.specs.Number.{Octets}
use Rattle.filter_rules.specs.Positions.{positions}
use Rattle.filter_rules.specs.Filter.{fresh_filter, is_set, add_all, contains_all, union}

-- B-2: ten positions, each from 0 to 4095
abbrev pub TenPositions : Type 0
TenPositions = (id : List ℕ) → (length (positions id) ≡ 10) × ((k : ℕ) → k < 10 → get_or (positions id) k 0 < 4096)

-- B-2: of the 24 bits of each three octets the upper twelve, then the lower twelve
abbrev pub TwelveBits : Type 0
TwelveBits = (id : List ℕ) → Octets id → (g : ℕ) → g < 5
    → (get_or (positions id) (2 * g) 0 ≡ get_or id (3 * g) 0 * 16 + get_or id (3 * g + 1) 0 / 16)
    × (get_or (positions id) (2 * g + 1) 0 ≡ get_or id (3 * g + 1) 0 % 16 * 256 + get_or id (3 * g + 2) 0)

-- B-1
abbrev pub FreshUnset : Type 0
FreshUnset = (p : ℕ) → is_set fresh_filter p ≡ false

-- B-4: an ID that was added is found
abbrev pub IdFound : Type 0
IdFound = (f id : List ℕ) → length f ≡ 512 → contains_all (add_all f (positions id)) (positions id) ≡ true

-- what was set before an adding stays set
abbrev pub SetKept : Type 0
SetKept = (f ps : List ℕ) (q : ℕ) → is_set f q ≡ true → is_set (add_all f ps) q ≡ true

-- and a position that is not one of those added does not change
abbrev pub OthersKept : Type 0
OthersKept = (f ps : List ℕ) (q : ℕ) → ((i : ℕ) → i < length ps → get_or ps i 0 ≢ q) → is_set (add_all f ps) q ≡ is_set f q

-- B-5: in a union of filters of one size a position is set where it is set in either
abbrev pub SetInEither : Type 0
SetInEither = (f g : List ℕ) (p : ℕ) → length f ≡ length g → is_set (union f g) p ≡ is_set f p || is_set g p
