-- The worked cases, M-1 to M-12, and those of half an era, W206-3 and W206-9: a row is a case's number, what the definitions give, and
-- what the rule says.
use Rattle.std.specs.Prelude.{◌≡◌, Bool, true, false, cond, ◌&&◌, List, [], ◌∷◌, ◌++◌, ℕ, suc, ◌+◌, ◌-◌, ◌^◌, eqb, ℤ, pos, negsuc, neg_ℤ, length, get_or, take, replicate}
use Rattle.octets.specs.Number.{octets}
use Rattle.header.specs.Header.{header_octets}
use Rattle.header.specs.declared.edition.Edition.TheVariants.{Seven}
use Rattle.header.specs.declared.Header.{Header}
use Rattle.chain.specs.Chain.{sound_refusal}
use Rattle.field_role.specs.Role.{good_request}
use Rattle.filter_rules.specs.Filter.{of_id, weight}
use Rattle.measure.specs.Measure.{measurement}
use Rattle.measure.specs.Measure.{Measurement}

pub record Row : Type 0 where
  pub case : ℕ
  pub gives : List ℤ
  pub says : List ℤ

abbrev pub row : ℕ → List ℤ → List ℤ → Row
row n g s = record { case = n; gives = g; says = s }

-- of case M-n
abbrev pub M : ℕ → List ℤ → List ℤ → Row
M = row

-- a header of zeros but leap and mode
unfoldable pub bare : ℕ → ℕ → Header
bare l m = record {
  edition = Seven;
  leap = l;
  mode = m;
  stratum = 0;
  poll = pos 0;
  precision = pos 0;
  timescale = 0;
  era = 0;
  timescale_offset = pos 0;
  flags = 0;
  root_delay = 0;
  root_dispersion = 0;
  server_cookie = record { 0 = 0 };
  client_cookie = record { 0 = 0 };
  receive = 0;
  transmit = 0;
}

-- M-1: octet 0 of a header with this leap and mode
abbrev pub first_octet : ℕ → ℕ → ℤ
first_octet l m = pos (get_or (header_octets (bare l m)) 0 0)

-- a request without fields, and the first octets of a padding field of length n
unfoldable pub request : List ℕ
request = header_octets (bare 0 3)

abbrev pub padding : ℕ → List ℕ
padding n = octets 2 0xF501 ++ octets 2 n

-- M-2 to M-4: the refusal of a datagram where a request is wanted
abbrev pub refusal_of : List ℕ → ℤ
refusal_of s = pos (sound_refusal s 3)

-- a measurement gives judgement, offset and delay: ours, and any other that the table may be asked of
abbrev pub MeasurementFunction : Type 0
MeasurementFunction = (t1 t2 t3 t4 : ℕ) → Measurement

-- and so for the weight of a filter
abbrev pub WeightFunction : Type 0
WeightFunction = List ℕ → ℕ

-- M-5 to M-7: octet k of the filter of an ID alone, and that filter's weight
abbrev pub filtered : WeightFunction → List ℕ → ℕ → List ℤ
filtered w id k = pos (get_or (of_id id) k 0) ∷ pos (w (of_id id)) ∷ []

-- M-8 to M-11: judgement, offset and delay
abbrev pub measured : MeasurementFunction → (t1 t2 t3 t4 : ℕ) → List ℤ
measured m t1 t2 t3 t4 = pos (m t1 t2 t3 t4).judgement ∷ (m t1 t2 t3 t4).offset ∷ pos (m t1 t2 t3 t4).delay ∷ []

-- M-12: 1 for a good filter request, 0 for an unknown field
abbrev pub good : ℕ → ℕ → ℤ
good at n = pos (cond (good_request at n) 1 0)

unfoldable pub table_for : MeasurementFunction → WeightFunction → List Row
table_for m w =
    M 1 (first_octet 0 3 ∷ first_octet 0 4 ∷ first_octet 3 4 ∷ []) (pos 0x2B ∷ pos 0x2C ∷ pos 0xEC ∷ [])
    ∷ M 2 (
    refusal_of (take 47 request)
    ∷ refusal_of request
    ∷ refusal_of (request ++ replicate 2 0)
    ∷ refusal_of (request ++ padding 1232 ++ replicate 1228 0)
    ∷ refusal_of (request ++ padding 1236 ++ replicate 1232 0)
    ∷ []
    ) (pos 1 ∷ pos 0 ∷ pos 1 ∷ pos 0 ∷ pos 1 ∷ [])
    ∷ M 3 (refusal_of (request ++ padding 3) ∷ []) (pos 4 ∷ [])
    ∷ M 4 (refusal_of (request ++ padding 5 ++ 7 ∷ 0 ∷ 0 ∷ 0 ∷ []) ∷ []) (pos 0 ∷ [])
    ∷ M 5 (filtered w (replicate 15 0) 0) (pos 0x01 ∷ pos 1 ∷ [])
    ∷ M 6 (filtered w (replicate 15 0xFF) 511) (pos 0x80 ∷ pos 1 ∷ [])
    ∷ M 7 (filtered w (0x00 ∷ 0x10 ∷ 0x02 ∷ replicate 12 0) 0) (pos 0x07 ∷ pos 3 ∷ [])
    ∷ M 8 (measured m 0xFFFFFFFF00000000 0x80000000 0x80000000 0x100000000) (pos 0 ∷ pos 2147483648 ∷ pos 8589934592 ∷ [])
    ∷ M 9 (measured m 10 10 10 11) (pos 0 ∷ neg_ℤ (pos 1) ∷ pos 1 ∷ [])
    ∷ M 10 (measured m 1 (2 ^ 63 + 1) (2 ^ 63 + 1) 1) (pos 5 ∷ pos 0 ∷ pos 0 ∷ [])  -- W206-8
    ∷ M 11 (measured m 1 (2 ^ 63) (2 ^ 63) 1) (pos 0 ∷ pos (2 ^ 63 - 1) ∷ pos 0 ∷ [])
    ∷ M 12 (good 508 4 ∷ good 508 8 ∷ []) (pos 1 ∷ pos 0 ∷ [])
    ∷ []

unfoldable pub same : ℤ → ℤ → Bool
same (pos a) (pos b) = eqb a b
same (pos a) (negsuc b) = false
same (negsuc a) (pos b) = false
same (negsuc a) (negsuc b) = eqb a b

unfoldable pub all_same : List ℤ → List ℤ → Bool
all_same [] [] = true
all_same [] (y ∷ ys) = false
all_same (x ∷ xs) [] = false
all_same (x ∷ xs) (y ∷ ys) = same x y && all_same xs ys

-- how many values there are in each of the cases M-1 to M-12
abbrev pub values_said : List ℕ
values_said = 3 ∷ 5 ∷ 1 ∷ 1 ∷ 2 ∷ 2 ∷ 2 ∷ 3 ∷ 3 ∷ 3 ∷ 3 ∷ 2 ∷ []

-- the rows are the cases from n on, none missing and none out of order, each with as many values, and in each the definitions give what
-- the rule says
unfoldable pub agree : ℕ → List ℕ → List Row → Bool
agree n [] [] = true
agree n [] (r ∷ rs) = false
agree n (k ∷ ks) [] = false
agree n (k ∷ ks) (r ∷ rs) = eqb r.case n && eqb (length r.says) k && all_same r.gives r.says && agree (suc n) ks rs

-- P-12: the claim, of any measurement and weight, and of ours
abbrev pub WorkedFor : MeasurementFunction → WeightFunction → Type 0
WorkedFor m w = agree 1 values_said (table_for m w) ≡ true

abbrev pub Worked : Type 0
Worked = WorkedFor measurement weight

-- Row 1, W206-3: T2-T1, T3-T4, T4-T1 and T3-T2, each alone half an era. Row 2, W206-9: the smallest offset, of two differences of
-- -(2^63 - 1) (M-11 has the largest), and the largest delay, of 2^63 - 1 and -(2^63 - 1), both ways
unfoldable pub half_era_table : List Row
half_era_table =
    row 1 (
    measured measurement 1 (2 ^ 63 + 1) (2 ^ 63 + 3) 5
    ++ measured measurement 1 (2 ^ 63 + 3) (2 ^ 63 + 5) 5
    ++ measured measurement 1 3 5 (2 ^ 63 + 1)
    ++ measured measurement 1 3 (2 ^ 63 + 3) 9
    ) (pos 5 ∷ pos 0 ∷ pos 0 ∷ pos 5 ∷ pos 0 ∷ pos 0 ∷ pos 5 ∷ pos 0 ∷ pos 0 ∷ pos 5 ∷ pos 0 ∷ pos 0 ∷ [])
    ∷ row 2 (
    measured measurement (2 ^ 63) 1 1 (2 ^ 63)
    ++ measured measurement 1 1 (2 ^ 63 + 2) (2 ^ 63)
    ++ measured measurement (2 ^ 63) (2 ^ 63 + 2) 1 1
    ) (pos 0 ∷ neg_ℤ (pos (2 ^ 63 - 1)) ∷ pos 0 ∷ pos 0 ∷ pos 1 ∷ pos (2 ^ 64 - 2) ∷ pos 0 ∷ pos 1 ∷ pos (2 ^ 64 - 2) ∷ [])
    ∷ []

abbrev pub HalfEraWorked : Type 0
HalfEraWorked = agree 1 (12 ∷ 9 ∷ []) half_era_table ≡ true
