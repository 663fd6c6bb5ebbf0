-- What is decided about one record, by value. The contracts of the calls do not cite it.
use Rattle.std.specs.Prelude.{Result, Ok, Err, Bool, true, cond, not, ◌&&◌, ◌||◌, ℕ, eqb}
use Rattle.records.specs.declared.Record.{Record as Slot}
use Rattle.records.specs.declared.value.Seen.{Seen}

-- one record more is seen; `again` where a later one has its cookie too
abbrev pub seen_after : Seen → Slot → (again : Bool) → Seen
seen_after s r again =
    cond (eqb r.cookie.0 0 && eqb r.time 0) (record { wrong = s.wrong; gap = true })
    (record { wrong = s.wrong || s.gap || eqb r.cookie.0 0 || again; gap = s.gap })

-- a report of a time for the cookie of a record: the record after it, or the refusal
abbrev pub reported_one : (wrong : Bool) → Slot → ℕ → Result Slot ℕ
reported_one wrong r t =
    cond (wrong || eqb t 0) (Err 6)
    (cond (eqb r.cookie.0 0 || not (eqb r.time 0)) (Err 12)
    (Ok (record { cookie = r.cookie; time = t })))

-- a report for a cookie that no record has
abbrev pub absent_refusal : (wrong : Bool) → ℕ → ℕ
absent_refusal wrong t = cond (wrong || eqb t 0) 6 12
