-- Which fields of a request mean something to a responder, and which are unknown and skipped: F-9 to F-19.
use Rattle.std.specs.Prelude.{◌≡◌, Bool, true, false, cond, ◌&&◌, ◌||◌, List, [], ◌∷◌, ℕ, ◌+◌, ◌%◌, eqb, leb}
use Rattle.octets.specs.Number.{get_at}
use Rattle.chain.specs.declared.cursor.Field.{Field}
use Rattle.field_role.specs.declared.Met.{Met}
use Rattle.field_role.specs.declared.Role.{Role}
use Rattle.field_role.specs.declared.Role.TheVariants.{FilterRequest, Information, DraftName, Unknown}

-- F-14: a filter request of n data octets is good
abbrev pub good_request : ℕ → ℕ → Bool
good_request offset n = eqb (n % 4) 0 && leb 4 n && leb n 512 && leb (offset + n) 512

-- F-15, F-17: by offset and length alone
abbrev pub request_role : ℕ → ℕ → Role
request_role offset n = cond (good_request offset n) (FilterRequest offset) Unknown

-- S-2: what the first field of its type means in the datagram s
abbrev pub first_role : List ℕ → Field → Role
first_role s f =
    cond (eqb f.kind 0xF503) (request_role (get_at s f.start 2) f.size)  -- F-10
    (cond (eqb f.kind 0xF505) (cond (eqb f.size 4) Information Unknown)  -- F-12, F-17
    (cond (eqb f.kind 0xF5FF) DraftName  -- F-13
    Unknown))  -- F-9, F-16, F-19, W205-8

-- a field of a type is among those before
unfoldable pub already_met : ℕ → List Field → Bool
already_met kind [] = false
already_met kind (f ∷ before) = eqb f.kind kind || already_met kind before

-- F-18: what a field means, given whether one of its type stands before it
unfoldable pub role_given : Bool → List ℕ → Field → Role
role_given met s f = cond met Unknown (first_role s f)

abbrev pub role_of : List ℕ → List Field → Field → Role
role_of s before f = role_given (already_met f.kind before) s f

-- the same from three flags, which are all that a responder has to keep of the fields before

abbrev pub none_met : Met
none_met = record { request = false; information = false; name = false }

abbrev pub met_after : Met → ℕ → Met
met_after m kind = record {
  request = m.request || eqb kind 0xF503;
  information = m.information || eqb kind 0xF505;
  name = m.name || eqb kind 0xF5FF;
}

-- the flag of a type; a field of a type without one is unknown in any case
abbrev pub flag_of : Met → ℕ → Bool
flag_of m kind =
    cond (eqb kind 0xF503) m.request
    (cond (eqb kind 0xF505) m.information
    (cond (eqb kind 0xF5FF) m.name
    false))

abbrev pub role_with : List ℕ → Field → Met → Role
role_with s f m = role_given (flag_of m f.kind) s f

-- the size that a field has to have for its role
abbrev pub SizeAllowed : Field → Role → Type 0
SizeAllowed f (FilterRequest offset) = good_request offset f.size ≡ true
SizeAllowed f Information = f.size ≡ 4
SizeAllowed f DraftName = Unit {0}
SizeAllowed f Unknown = Unit {0}

-- the types that a responder answers: a field of any other is unknown, and changes no flag
abbrev pub is_answered : ℕ → Bool
is_answered kind = eqb kind 0xF503 || eqb kind 0xF505 || eqb kind 0xF5FF
