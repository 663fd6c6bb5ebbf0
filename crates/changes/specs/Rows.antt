-- The calls by the numbers of their rows.
use Rattle.std.specs.Prelude.{ℕ, eqb, cond, Option, Some, None}
use Rattle.std.specs.Option.{unwrap_or}
use Rattle.changes.specs.declared.Change.{Change}
use Rattle.changes.specs.declared.Change.TheVariants.{Clear, Open, Close, Poll, Sent, Receive}

abbrev pub row_number : Change → ℕ
row_number Clear = 7
row_number Open = 8
row_number Close = 9
row_number Poll = 10
row_number Sent = 11
row_number Receive = 12

abbrev pub change_at : ℕ → Option Change
change_at n =
    cond (eqb n 7) (Some Clear)
    (cond (eqb n 8) (Some Open)
    (cond (eqb n 9) (Some Close)
    (cond (eqb n 10) (Some Poll)
    (cond (eqb n 11) (Some Sent)
    (cond (eqb n 12) (Some Receive)
    None)))))

-- the call of any number: as `table_after` has it, the last one's where it is that of no row
abbrev pub change_for : ℕ → Change
change_for n = unwrap_or (change_at n) Sent
