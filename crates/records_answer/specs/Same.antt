-- The slice of records and the octets hold the same row: the same calls on a slice's records and on their octets return the same, and leave the same row.
use Rattle.std.specs.Prelude.{◌≡◌, true, false, cond, List, [], ◌∷◌, ℕ, ◌+◌, ◌*◌, ◌/◌, ◌<◌, ◌^◌, ltb, length}
use Rattle.octets.specs.Number.{get_at}
use Rattle.store_rules.specs.Row.{Record, held, time_of, with_time, without, joined, used_of, row_octets, row_of, wrong_store, cleared, reporting}
use Rattle.store_rules.specs.Place.{index_of, place_of, removed, joined_octets}
use Rattle.records.specs.Records.{records_in, Fit, time_at, wrong_records, clear_records, report_records, leave_records, join_records}
use Rattle.records.specs.declared.Record.{Record as Slot}
use Rattle.responder_rules.specs.Answer.{Given, asking, row_after, answer_of}
use Rattle.records_answer.specs.Answer.{answer_records}

-- ---- calls

-- a record's place is its number; in the octets it stands at 16 times that. `out` is an answer's output as lent
pub data Call : Type 0 where
  clear : Call
  wrong : Call
  find : (cookie : ℕ) → Call
  time : (at : ℕ) → Call
  report : (cookie time : ℕ) → Call
  leave : (at : ℕ) → Call
  join : (cookie : ℕ) → Call
  answer : (given : Given) (out : List ℕ) → Call

-- what a call returns: a number (0 where it returns nothing, 1 for true); of an answer its refusal, its size and its output afterwards
pub data Returned : Type 0 where
  number : ℕ → Returned
  answered : (refusal size : ℕ) (out : List ℕ) → Returned

-- what a call on records returns and leaves. A cookie is looked for from the start
abbrev pub call_on_records : Call → List Record → Returned × List Record
call_on_records clear rs = (number (clear_records rs).0, (clear_records rs).1)
call_on_records wrong rs = (number (cond (wrong_records rs) 1 0), rs)
call_on_records (find c) rs = (number (index_of c rs), rs)
call_on_records (time at) rs = (number (time_at rs at), rs)
call_on_records (report c t) rs = (number (report_records rs c t).0, (report_records rs c t).1)
call_on_records (leave at) rs = (number 0, leave_records rs at)
call_on_records (join c) rs = (number 0, join_records rs c)
call_on_records (answer g out) rs = let w = answer_records g rs out in (answered w.refusal w.size w.out, w.records)

-- what it does on octets, by the definitions of `store_rules` and `responder_rules`
abbrev pub call_on_octets : Call → List ℕ → Returned × List ℕ
call_on_octets clear s = (number (cleared s).0, (cleared s).1)
call_on_octets wrong s = (number (cond (wrong_store s) 1 0), s)
call_on_octets (find c) s = (number (place_of s c / 16), s)
call_on_octets (time at) s = (number (get_at s (16 * at + 8) 8), s)
call_on_octets (report c t) s = (number (reporting s c t).0, (reporting s c t).1)
call_on_octets (leave at) s = (number 0, removed s (16 * at))
call_on_octets (join c) s = (number 0, joined_octets s c)
call_on_octets (answer g out) s = let w = answer_of g s out in (answered w.refusal w.size w.out, w.store)

-- what calls return, one after the other, and what is left
unfoldable pub returned : {S : Type 0} → (Call → S → Returned × S) → List Call → S → List Returned
returned step [] s = []
returned step (c ∷ cs) s = (step c s).0 ∷ returned step cs (step c s).1

unfoldable pub after : {S : Type 0} → (Call → S → Returned × S) → List Call → S → S
after step [] s = s
after step (c ∷ cs) s = after step cs (step c s).1

-- ---- numbers of 64 bits, as every u64 is

abbrev pub Typed : Call → Type 0
Typed clear = Unit {0}
Typed wrong = Unit {0}
Typed (find c) = Unit {0}
Typed (time at) = Unit {0}
Typed (report c t) = t < 2 ^ 64
Typed (leave at) = Unit {0}
Typed (join c) = c < 2 ^ 64
Typed (answer g out) = g.fresh_cookie < 2 ^ 64

abbrev pub AllTyped : List Call → Type 0
AllTyped [] = Unit {0}
AllTyped (c ∷ cs) = Typed c × AllTyped cs

-- ---- the claims

pub record SameCalls (rs : List Record) (cs : List Call) : Type 0 where
  pub returns : returned call_on_octets cs (row_octets rs) ≡ returned call_on_records cs rs
  pub left : after call_on_octets cs (row_octets rs) ≡ row_octets (after call_on_records cs rs)
  pub row : row_of (after call_on_octets cs (row_octets rs)) ≡ used_of (after call_on_records cs rs)

-- for the records of any slice, right or wrong, and every list of calls
abbrev pub Same : Type 0
Same = (slice : List Slot) → Fit (records_in slice) → (cs : List Call) → AllTyped cs → SameCalls (records_in slice) cs

-- records that are not wrong, and their row
pub record Holds (row rs : List Record) : Type 0 where
  pub right : wrong_records rs ≡ false
  pub its-row : used_of rs ≡ row

-- on records that are not wrong each call is the row's, and leaves records that are not wrong
pub record RowCalls (rs : List Record) : Type 0 where
  pub finds : (c : ℕ) → (c ≡ 0 → ⊥) → held c (used_of rs) ≡ ltb (index_of c rs) (length rs)
  pub times : (c : ℕ) → time_of c (used_of rs) ≡ time_at rs (index_of c rs)
  pub reports : (c t : ℕ) → t < 2 ^ 64 → (report_records rs c t).0 ≡ 0 → Holds (with_time c t (used_of rs)) (report_records rs c t).1
  pub leaves : (c : ℕ) → held c (used_of rs) ≡ true → Holds (without c (used_of rs)) (leave_records rs (index_of c rs))
  pub joins : (c : ℕ) → (c ≡ 0 → ⊥) → c < 2 ^ 64 → held c (used_of rs) ≡ false → Holds (joined (length rs) c (used_of rs)) (join_records rs c)
  pub answers : (g : Given) (out : List ℕ) → g.fresh_cookie < 2 ^ 64 → (answer_records g rs out).refusal ≡ 0
      → Holds (row_after (asking g) g.fresh_cookie (length rs) (used_of rs)) (answer_records g rs out).records

abbrev pub ByRow : Type 0
ByRow = (slice : List Slot) → Fit (records_in slice) → wrong_records (records_in slice) ≡ false → RowCalls (records_in slice)
